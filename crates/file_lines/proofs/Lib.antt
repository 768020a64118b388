pub mod CutLemmas
pub mod Reading
pub mod Walking
pub mod Lookups
