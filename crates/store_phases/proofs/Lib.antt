pub mod Resting
pub mod Stores
pub mod Openings
