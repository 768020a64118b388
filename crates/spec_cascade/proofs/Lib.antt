pub mod CandidateLemmas
pub mod SaidLemmas
