-- What an opening fixes: the mounts, which of them are bad, the keys that each file keeps for other mounts, the map of
-- all visible keys, and the keys in `proc` of each handle. (After Elektra's page on mounting.)
use Rattle.std.specs.Prelude.{ℕ, Bool, true, false, not, List, filter, map as over, slice_get}
use Rattle.std.specs.List.{list_any}
use Rattle.std.specs.Option.{option_map_or}
use Rattle.kdb_outside.specs.declared.kinds.Kind.{Kind}
use Rattle.key_set.specs.WithAll.{with_all}
use Rattle.model_names.specs.Name.{Name}
use Rattle.model_maps.specs.KeyMap.{KeyMap, no_keys}
use Rattle.mount_table.specs.declared.mounts.Mount.{Mount}
use Rattle.mounted_files.specs.Visible.{visible_keys}
use Rattle.mounted_files.specs.Whole.{relative}
use Rattle.mounted_files.specs.declared.files.FileState.{FileState}
use Rattle.mounted_files.specs.declared.files.FileState.TheVariants.{Good, Bad}
use Rattle.mounted_files.specs.declared.files.MountedFile.{MountedFile}
use Rattle.set_split.specs.Involved.{owns}
use Rattle.storage_api.specs.declared.formats.Formats.{Ghosts}

-- mounts are named by their numbers
pub record Store : Type 0 where
  pub mounts : List Mount
  pub is_bad : ℕ → Bool
  pub shadow : ℕ → KeyMap
  pub start : KeyMap
  pub procs : ℕ → KeyMap

-- the mountpoints of some mounts
abbrev pub points_at : List Mount → List Name
points_at mounts = over (λ mount. mount.at) mounts

-- those of a store
abbrev pub points_of : Store → List Name
points_of store = points_at store.mounts

-- one of some mounts owns a name
abbrev pub is_owned : List Name → List ℕ → Name → Bool
is_owned points mounts name = list_any (λ m. owns points m name) mounts

-- what formats are to a store: the text of a map, which maps a file can hold, and at which key another map breaks
pub record Formats : Type 1 where
  pub text : Kind → KeyMap → List ℕ
  pub IsStorable : Kind → KeyMap → Type 0
  pub BreaksAt : Kind → KeyMap → Name → Type 0

-- these, from the meanings that formats have
abbrev pub formats_of : {S : Type 0} → Ghosts S → Formats
formats_of g = record { text = g.text; IsStorable = g.is_storable; BreaksAt = g.breaks_at }

-- what the file of a mount is to hold where some keys are wanted for it: these and its shadow, under relative names
abbrev pub contents : Store → ℕ → Mount → KeyMap → KeyMap
contents store m mount wanted = relative mount.at (with_all wanted (store.shadow m))

-- a mount counts conflicts by key; where there is no such mount, none does
abbrev pub counts_in : List Mount → ℕ → Bool
counts_in mounts m = option_map_or (λ mount. mount.by_key) (slice_get mounts m) false

abbrev pub counts_keys : Store → ℕ → Bool
counts_keys store = counts_in store.mounts

-- of some mounts those that count by their whole backend
abbrev pub by_backend : Store → List ℕ → List ℕ
by_backend store mounts = filter (λ m. not (counts_keys store m)) mounts

-- ---- what an opening fixes

-- a file isn't used
abbrev pub is_bad : FileState → Bool
is_bad (Good visible shadow) = false
is_bad (Bad cause) = true

-- the keys that a file keeps for other mounts; a bad one is never written, and keeps none
abbrev pub shadow_of : FileState → KeyMap
shadow_of (Good visible shadow) = shadow
shadow_of (Bad cause) = no_keys

-- the store of some mounted files, whose handles have these keys in `proc`
abbrev pub store_of : List MountedFile → (ℕ → KeyMap) → Store
store_of files procs = record {
  mounts = over (λ file. file.mount) files;
  is_bad = λ m. option_map_or (λ file. is_bad file.state) (slice_get files m) false;
  shadow = λ m. option_map_or (λ file. shadow_of file.state) (slice_get files m) no_keys;
  start = visible_keys files;
  procs = procs;
}
