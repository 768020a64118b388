-- That the files of touched mounts can be made anew of the map after a set. (This project's own.)
use Rattle.std.specs.Prelude.{◌≡◌, ℕ, true, false, None}
use Rattle.std.specs.List.{AllByRecursion}
use Rattle.model_history.specs.Changes.{after}
use Rattle.model_history.specs.History.{is_among}
use Rattle.model_maps.specs.KeyMap.{KeyMap}
use Rattle.mounted_files.specs.Short.{AreShort}
use Rattle.model_store.specs.Fitting.{IsStorableAt, too_heavy}
use Rattle.model_store.specs.Sets.{Prepared, wants}
use Rattle.model_store.specs.Store.{Store, Formats, counts_keys, points_of}

-- the file of each touched mount can hold what the mount owns of the map after a set; no text of this map is too long;
-- the files of the mounts by their backends are light enough, and these mounts own what the set wants there
pub record CanRemake (formats : Formats) (store : Store) (keys : KeyMap) (set : Prepared) : Type 0 where
  pub storable : AllByRecursion (IsStorableAt formats store (wants (points_of store) (after keys set.changes))) set.touched
  pub short : AreShort (after keys set.changes)
  pub light : AllByRecursion (λ m. counts_keys store m ≡ false → too_heavy store (wants (points_of store) (after keys set.changes)) m ≡ None) set.touched
  pub wanted : (m : ℕ) → is_among set.touched m ≡ true → counts_keys store m ≡ false
      → wants (points_of store) (after keys set.changes) m ≡ wants (points_of store) set.keys m
