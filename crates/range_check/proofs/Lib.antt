pub mod ItemLemmas
pub mod ZipLemmas
pub mod RangeLemmas
