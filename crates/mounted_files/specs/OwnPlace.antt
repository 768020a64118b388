-- Where the table's own mount stands.
use Rattle.std.specs.Prelude.{◌≡◌, ℕ, List, slice_get, Some}
use Rattle.mount_table.specs.Table.{own_mount}
use Rattle.mount_table.specs.declared.mounts.Mount.{Mount}

-- the table's own mount is one of these
pub record HasOwn (mounts : List Mount) : Type 0 where
  pub place : ℕ
  pub is : slice_get mounts place ≡ Some own_mount
