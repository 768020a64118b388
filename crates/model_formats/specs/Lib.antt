pub use Rattle.model_maps.specs.KeyMap
pub mod Holding
pub mod Format
