-- Mounted files as the code has them: with the table of their mounts.
use Rattle.std.specs.Prelude.{◌≡◌, ◌≤◌, ◌+◌, length, take, map, slice_get, Some}
use Rattle.std.specs.List.{remove, sum_by}
use Rattle.std.specs.List.Sorted.{IsStrictlySortedBy}
use Rattle.model_names.specs.Order.{name_cmp}
use Rattle.model_maps.specs.KeyMap.{heaviest_map}
use Rattle.mount_table.specs.Table.{own_mount}
use Rattle.mounted_files.specs.Opening.{IsMadeByKeys}
use Rattle.mounted_files.specs.Short.{HasShortTexts, HaveShortTexts}
use Rattle.mounted_files.specs.Weighed.{added_weight, visible_weight}
use Rattle.mounted_files.specs.declared.mounted.Mounted.TheInside as mounted
use Rattle.mounted_files.specs.declared.opening.Opening.TheInside as opening

-- the files are those of the table's mounts, which some keys make; their texts are short, and their visible keys
-- together weigh little enough
pub record IsMounted (inside : mounted.Inside) : Type 0 where
  pub table : map (λ file. file.mount) inside.files.items ≡ inside.table
  pub made : IsMadeByKeys inside.table
  pub short : HaveShortTexts inside.files.items
  pub light : sum_by (λ file. visible_weight file.state) inside.files.items ≤ heaviest_map

-- some keys make the table, its own mount is at its place, the files are those of the first of the other mounts, and
-- all of them weigh so much
pub record IsBegun (inside : opening.Inside) : Type 0 where
  pub made : IsMadeByKeys inside.table
  pub ascending : IsStrictlySortedBy name_cmp (map (λ mount. mount.at) inside.table)
  pub place : slice_get inside.table inside.place ≡ Some own_mount
  pub few : length inside.files.items ≤ length (remove inside.table inside.place)
  pub table : map (λ file. file.mount) inside.files.items
      ≡ take (length inside.files.items) (remove inside.table inside.place)
  pub own_short : HasShortTexts inside.own
  pub short : HaveShortTexts inside.files.items
  pub sum : inside.sum ≡ visible_weight inside.own + sum_by added_weight inside.files.items
  pub limit : inside.sum ≤ heaviest_map
