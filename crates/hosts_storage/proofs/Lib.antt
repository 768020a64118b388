pub mod WordCuts
pub mod PartLemmas
pub mod CommentUtf8
pub mod NulBytes
pub mod WeighedLemmas
pub mod HostLemmas
pub mod HoldingTests
pub mod CommentOrder
