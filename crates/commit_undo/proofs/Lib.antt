pub mod InverseLemmas
