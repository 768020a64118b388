pub mod JournalBytes
pub mod Readings
pub mod Outcomes
pub mod States
pub mod Moments
pub mod BadJournals
pub mod Steps
