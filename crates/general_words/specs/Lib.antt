pub mod Texts
pub mod Searches
pub mod Saturated
pub mod Memory
pub mod Fronts
