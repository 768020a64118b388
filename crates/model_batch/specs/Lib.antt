-- What the sessions of a batch do, and which replies are fair.
pub mod Replies
pub mod Sessions
pub mod Sets
pub mod Merges
pub mod Watches
pub mod Undos
pub mod Steps
pub mod Told
pub mod Fair
pub mod Scripts
