pub mod Undoing
pub mod Worked
