pub mod Generated
pub mod Tallies
