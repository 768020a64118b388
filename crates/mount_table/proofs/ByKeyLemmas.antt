-- Which mounts of a table count conflicts by key: only such whose format takes each key beside any others, and never
-- that of the table's own keys.
use Rattle.std.proofs.Common.{◌≡◌, ℕ, true, false, List, slice_get, Some, Ok}
use Rattle.model_maps.specs.KeyMap.{KeyMap}
use Rattle.mount_table.specs.Counting.{may_count}
use Rattle.mount_table.specs.Points.{own_point}
use Rattle.mount_table.specs.Table.{table_of}
use Rattle.mount_table.specs.declared.mounts.Mount.{Mount}
use Rattle.mount_table.proofs.OwnFileLemmas.{good_mounts}

module _ (keys : KeyMap) (mounts : List Mount) (ok : table_of keys ≡ Ok mounts)
    (m : ℕ) (mount : Mount) (there : slice_get mounts m ≡ Some mount) where
  pub by_key-may_count : mount.by_key ≡ true → may_count mount.kind ≡ true
  by_key-may_count = (good_mounts keys mounts ok m mount there).may

  pub own-by_backend : mount.at ≡ own_point → mount.by_key ≡ false
  own-by_backend = (good_mounts keys mounts ok m mount there).own
