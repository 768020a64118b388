pub mod InverseSets
pub mod ParentLemmas
