pub mod MountLemmas
pub mod OwningLemmas
pub mod SplitLemmas
pub mod UnionLemmas
pub mod NowhereLemmas
pub mod PassingLemmas
