pub use Rattle.model_names.specs.Name
pub use Rattle.model_names.specs.Spelling
pub mod Quoted
