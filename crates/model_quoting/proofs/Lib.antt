pub mod QuotedAs
pub mod AlikeLemmas
pub mod LineLemmas
pub mod CutLemmas
