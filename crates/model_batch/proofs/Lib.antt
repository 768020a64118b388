pub mod TriesLemmas
mod JudgedLemmas
mod UndoTells
pub mod Telling
pub mod Knowing
mod OwnLemmas
mod Covering
mod MergesCover
mod Bounds
mod Polling
