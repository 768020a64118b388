pub mod Sums
pub mod Prefixes
pub mod Entries
pub mod Numbers
pub mod Keeping
pub mod Turning
pub mod Dealing
