pub mod Replies
pub mod Printed
pub mod Reading
pub mod Worked
