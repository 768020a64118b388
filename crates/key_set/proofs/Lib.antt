pub mod SetLemmas
pub mod RangeLemmas
pub mod WithAllLemmas
pub mod SameLemmas
pub mod StepLemmas
pub mod WholeLemmas
