pub mod Signs
pub mod Line
pub mod Ini
pub mod Text
