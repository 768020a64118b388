pub mod ItemLemmas
pub mod SameLemmas
