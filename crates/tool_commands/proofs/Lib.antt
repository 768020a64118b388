pub mod TreeLemmas
pub mod BringLemmas
pub mod MergeLemmas
