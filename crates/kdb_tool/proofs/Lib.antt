-- What a batch comes to, from its words to its end.
pub mod CountLemmas
pub mod PlayLemmas
pub mod OpeningLemmas
pub mod TaskLemmas
pub mod WorkLemmas
pub mod EndLemmas
pub mod GeneratedLemmas
