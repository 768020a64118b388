pub mod Line
pub mod Comments
pub mod Keys
pub mod Hosts
pub mod Text
