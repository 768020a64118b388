pub mod BuiltRegexes
pub mod HandedPatterns
