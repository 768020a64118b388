pub mod KeyLemmas
pub mod RangeLemmas
