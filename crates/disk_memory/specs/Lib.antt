pub mod Steps
pub mod Choices
pub mod DiskState
pub mod DiskLaws
