pub mod Globs
pub mod SpecMeta
pub mod Specified
pub mod Violations
