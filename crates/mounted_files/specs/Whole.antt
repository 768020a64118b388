-- A file holds names relative to its mountpoint, which stands before each of them. (After Elektra's page on mounting.)
pub use Rattle.key_set.specs.Whole.{all_fit, as_way, as_whole, fits, relative, whole}
