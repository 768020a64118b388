pub mod TextLemmas
pub mod FileLemmas
pub mod EntryLemmas
pub mod NameLemmas
