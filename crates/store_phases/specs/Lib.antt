pub mod Resting
pub mod Phases
pub mod Stores
pub mod Opens
