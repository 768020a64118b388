pub mod Handles
pub mod Stages
pub mod Told
pub mod Plays
pub mod Ran
pub mod Causes
pub mod Flushed
