pub mod QuotedLemmas
