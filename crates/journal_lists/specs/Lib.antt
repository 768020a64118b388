pub mod Heads
pub mod Rules
pub mod Grammar
pub mod Lists
pub mod Readings
pub mod Journals
pub mod Starts
pub mod Worked
