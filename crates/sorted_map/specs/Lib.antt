pub mod Place
pub mod Merge
