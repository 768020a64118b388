pub mod Strategies
pub mod Merging
pub mod Refusing
pub mod Front
pub mod Walk
pub mod Merged
