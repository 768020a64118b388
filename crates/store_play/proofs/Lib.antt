pub mod PlaceLemmas
pub mod HandleLemmas
pub mod StepLemmas
pub mod CauseLemmas
pub mod PlayLemmas
pub mod RunLemmas
pub mod FlushLemmas
