pub use Rattle.model_history.specs.History
pub mod CommitView
pub mod Log
pub mod Index
pub mod Naming
