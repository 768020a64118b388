pub mod SizeLemmas
pub mod RecordLemmas
pub mod NameLemmas
pub mod ProgressLemmas
pub mod StepLemmas
pub mod ReadingLemmas
pub mod WritingLemmas
pub mod SoFarLemmas
