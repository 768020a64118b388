pub mod Number
pub mod Range
pub mod Types
pub mod Rules
