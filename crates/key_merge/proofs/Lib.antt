pub mod ChoiceLemmas
pub mod LowestLemmas
pub mod FrontLemmas
pub mod StandsLemmas
pub mod NamesLemmas
pub mod MergedLemmas
