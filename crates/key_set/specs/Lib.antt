pub mod EntryView
pub mod WithAll
pub mod Same
pub mod Whole
pub mod Sound
pub mod WholeOrder
