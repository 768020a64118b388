-- How the story of a store goes on.
pub mod StoryLemmas
pub mod RunLemmas
mod RecordLemmas
pub mod CoverLemmas
mod AcceptLemmas
mod BelongLemmas
mod SharedLemmas
mod TurnLemmas
mod HandleLemmas
mod UndoLemmas
mod UndoTurns
mod UndoHandles
mod UndoLaws
pub mod BlockLemmas
mod SeatLemmas
mod CloseLemmas
mod RemakeLemmas
mod MergeLemmas
mod RisingLemmas
pub mod Crossing
