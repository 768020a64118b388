-- What the names and texts of keys are that a file is to hold, whatever their lengths.
use Rattle.std.specs.Prelude.{◌≡◌, Some}
use Rattle.std.specs.FinMap as map
use Rattle.key_name.specs.Joining.{joined}
pub use Rattle.key_set.specs.Sound.{AreCascading, AreSound, IsSound}
use Rattle.model_names.specs.Name.{Name}
use Rattle.model_names.specs.WellFormed.{IsName}
use Rattle.model_maps.specs.Entry.{Entry}
use Rattle.model_maps.specs.KeyMap.{KeyMap}

-- the whole names of keys behind a mountpoint are names
abbrev pub AreNames : Name → KeyMap → Type 0
AreNames point keys = (name : Name) (entry : Entry) → map.get keys name ≡ Some entry → IsName (joined point name)
