-- How a session goes on, what the sessions of a batch come to together, and how a script comes to be played.
pub mod CommitNumbers
mod WatchLemmas
pub mod Joining
mod EditLemmas
mod GetTurns
mod SetTurns
mod MergeTurns
mod WatchTurns
mod UndoTurns
mod Growing
mod Hearing
mod Rising
mod RoomLemmas
mod ShownLemmas
mod Counting
mod Through
mod Standing
mod Phasing
mod Fairness
mod Totals
mod Making
mod Opened
pub mod Ending
