pub mod News
pub mod Watches
pub mod Polls
