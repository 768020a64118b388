-- Which mounts are bad, by the states of their files.
use Rattle.std.specs.Prelude.{ℕ, Bool, false, if◌then◌else◌, List, slice_get, Option, Some, None}
use Rattle.std.specs.Option.{option_map_or}
use Rattle.model_store.specs.Store.{is_bad}
use Rattle.mounted_files.specs.declared.files.MountedFile.{MountedFile}

abbrev pub is_bad_at : List MountedFile → ℕ → Bool
is_bad_at files m = option_map_or (λ file. is_bad file.state) (slice_get files m) false

-- the mount where it is bad
abbrev pub bad_at : List MountedFile → ℕ → Option ℕ
bad_at files m = if is_bad_at files m then Some m else None
