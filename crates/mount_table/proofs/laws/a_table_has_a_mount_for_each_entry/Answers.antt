-- No two mounts have one mountpoint, so none is lost.
use Rattle.mount_table.proofs.CountLemmas.{each_mount}
use Rattle.mount_table.proofs.laws.a_table_has_a_mount_for_each_entry.Goals as goal

pub returns : goal.returns
returns c keys mounts = each_mount keys mounts
