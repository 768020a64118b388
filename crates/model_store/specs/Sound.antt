-- What an opening makes sure of, so that a commit by key can make the text of a file anew: what files hold can be
-- written again, and the keys of two maps that a file can hold make one that it can hold. (This project's own.)
use Rattle.std.specs.Prelude.{◌≡◌, ◌⊎◌, ℕ, true, false, slice_get, Some}
use Rattle.std.specs.FinMap as map
use Rattle.kdb_outside.specs.declared.kinds.Kind.{Kind}
use Rattle.model_names.specs.Name.{Name}
use Rattle.model_names.specs.Order.{name_eq}
use Rattle.model_maps.specs.Entry.{Entry}
use Rattle.model_maps.specs.KeyMap.{KeyMap}
use Rattle.model_store.specs.Fitting.{IsStorableAt}
use Rattle.model_store.specs.Sets.{wants}
use Rattle.model_store.specs.Store.{Store, Formats, points_of}
use Rattle.mount_table.specs.Points.{own_point}
use Rattle.mount_table.specs.declared.mounts.Mount.{Mount}
use Rattle.mounted_files.specs.Short.{AreShort}

-- each key of a map is one of the first or one of the second
abbrev pub ComeFrom : KeyMap → KeyMap → KeyMap → Type 0
ComeFrom first second keys =
    (name : Name) (entry : Entry) → map.get keys name ≡ Some entry → (map.get first name ≡ Some entry) ⊎ (map.get second name ≡ Some entry)

-- a format can hold each map whose keys come from two that it can hold
abbrev pub Mixes : Formats → Kind → Type 0
Mixes formats kind =
    (first second keys : KeyMap) → formats.IsStorable kind first → formats.IsStorable kind second → ComeFrom first second keys → formats.IsStorable kind keys

-- a mount that isn't bad can store the keys that it begins with; no text is too long, in what is visible and in what
-- files keep for others; and a mount by key has a format that mixes, and isn't that of the table
pub record IsSound (formats : Formats) (store : Store) : Type 0 where
  pub storable : (m : ℕ) → store.is_bad m ≡ false → IsStorableAt formats store (wants (points_of store) store.start) m
  pub short : AreShort store.start
  pub shadow : (m : ℕ) → AreShort (store.shadow m)
  pub mixes : (m : ℕ) (mount : Mount) → slice_get store.mounts m ≡ Some mount → mount.by_key ≡ true
      → Mixes formats mount.kind
  pub elsewhere : (m : ℕ) (mount : Mount) → slice_get store.mounts m ≡ Some mount → mount.by_key ≡ true
      → name_eq mount.at own_point ≡ false
