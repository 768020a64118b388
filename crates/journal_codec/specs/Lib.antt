pub mod Entry
pub mod Reading
pub mod Stops
pub mod Places
pub mod Forms
pub mod Header
pub mod Listed
