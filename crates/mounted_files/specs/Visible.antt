-- The keys that mounted files show. (After Elektra's kdbGet, which gives all keys of the mounts that its parent
-- involves.)
use Rattle.std.specs.Prelude.{List}
use Rattle.std.specs.List.{fold}
use Rattle.key_set.specs.WithAll.{with_all}
use Rattle.model_maps.specs.KeyMap.{KeyMap, no_keys}
use Rattle.mounted_files.specs.declared.files.FileState.{FileState}
use Rattle.mounted_files.specs.declared.files.FileState.TheVariants.{Good, Bad}
use Rattle.mounted_files.specs.declared.files.MountedFile.{MountedFile}

-- the visible keys of a file; a bad one has none
abbrev pub visible_of : FileState → KeyMap
visible_of (Good visible shadow) = visible
visible_of (Bad cause) = no_keys

-- the visible keys of some files
abbrev pub visible_keys : List MountedFile → KeyMap
visible_keys files = fold (λ keys file. with_all (visible_of file.state) keys) no_keys files
