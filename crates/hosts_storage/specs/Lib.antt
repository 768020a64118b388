pub mod MeaningView
pub mod WeighedView
pub mod ProgressView
pub mod Tail
pub mod Holding
