pub mod ChangeLemmas
pub mod HistoryLemmas
