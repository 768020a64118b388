pub mod NumberLemmas
pub mod EnumLemmas
pub mod ListingLemmas
