pub mod CommandLines
pub mod Lines
pub mod Uses
pub mod Request
pub mod Rows
pub mod RequestView
