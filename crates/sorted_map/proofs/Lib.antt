pub mod RisingLemmas
pub mod MapLemmas
pub mod SeenLemmas
pub mod RangeLemmas
pub mod MergeLemmas
