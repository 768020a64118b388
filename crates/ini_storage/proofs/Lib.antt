pub mod TrimLemmas
pub mod KeyLemmas
pub mod PlainLemmas
pub mod BareLemmas
