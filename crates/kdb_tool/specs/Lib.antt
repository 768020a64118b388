-- What a run of the tool promises: that of a batch, from its words to its end, and that of a single command.
pub mod Lines
pub mod Scripts
pub mod Unplayed
pub mod Plays
pub mod Ends
pub mod RunsBatch
pub mod Tasks
pub mod Reported
pub mod Working
pub mod Carried
pub mod Rounds
pub mod Generated
pub mod RunsGenerated
pub mod Generating
