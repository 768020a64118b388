pub mod Named
pub mod StepLemmas
pub mod ChangeLemmas
pub mod ChoiceLemmas
pub mod CrashLemmas
