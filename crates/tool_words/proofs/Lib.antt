pub mod WordLemmas
pub mod RowLemmas
