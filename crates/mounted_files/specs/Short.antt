-- Keys whose texts are all short enough to be stored. (This project's own.)
use Rattle.std.specs.Prelude.{◌≡◌, None, Some, List}
use Rattle.std.specs.List.{AllByRecursion}
use Rattle.std.specs.FinMap as map
use Rattle.model_names.specs.Name.{Name}
use Rattle.model_maps.specs.Entry.{Entry}
use Rattle.model_maps.specs.KeyMap.{KeyMap}
use Rattle.mounted_files.specs.Setting.{long_text}
use Rattle.mounted_files.specs.declared.files.FileState.{FileState}
use Rattle.mounted_files.specs.declared.files.FileState.TheVariants.{Good, Bad}
use Rattle.mounted_files.specs.declared.files.MountedFile.{MountedFile}

-- no entry has a text that is too long
abbrev pub AreShort : KeyMap → Type 0
AreShort keys = (name : Name) (entry : Entry) → map.get keys name ≡ Some entry → long_text entry ≡ None

-- the keys of a good file are such, those in its shadow too
abbrev pub HasShortTexts : FileState → Type 0
HasShortTexts (Good visible shadow) = AreShort visible × AreShort shadow
HasShortTexts (Bad cause) = Unit {0}

-- so are those of each of some files
abbrev pub HaveShortTexts : List MountedFile → Type 0
HaveShortTexts files = AllByRecursion (λ file. HasShortTexts file.state) files
