pub mod ArrayLemmas
pub mod TogetherLemmas
pub mod MapLemmas
pub mod SmallMaps
