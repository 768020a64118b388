pub mod Involved
pub mod Parts
pub mod Union
pub mod Seen
