-- Each entry is read so, and the default mounts count by their backends.
use Rattle.mount_table.proofs.ByKeyLemmas.{by_key-may_count}
use Rattle.mount_table.proofs.laws.a_mount_by_key_has_a_format_that_takes_keys_alone.Goals as goal

pub returns : goal.returns
returns c = by_key-may_count
