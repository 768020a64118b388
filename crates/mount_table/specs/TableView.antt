-- A mount table as the code has it.
use Rattle.std.specs.Prelude.{◌≡◌, map}
use Rattle.mount_table.specs.Table.{ArePoints}
use Rattle.mount_table.specs.declared.tables.MountTable.TheInside.{Inside}

-- the points are those of the mounts
pub record IsTable (table : Inside) : Type 0 where
  pub points : map (λ mount. mount.at) table.mounts.items ≡ table.points.items
  pub are_points : ArePoints table.points.items
