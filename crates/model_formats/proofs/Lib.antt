pub mod HoldingLemmas
pub mod Telling
