pub mod Leaves
pub mod Tree
pub mod Keys
pub mod Reading
pub mod Text
