pub mod Moments
pub mod Reached
