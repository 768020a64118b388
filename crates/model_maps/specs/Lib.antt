pub use Rattle.model_names.specs.Name
pub use Rattle.model_names.specs.Spelling
pub use Rattle.model_names.specs.Order
pub mod Entry
pub mod KeyMap
pub mod Together
pub mod Limits
