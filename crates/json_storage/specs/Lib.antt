pub mod Placing
pub mod Found
pub mod Reading
pub mod Writing
pub mod Kept
