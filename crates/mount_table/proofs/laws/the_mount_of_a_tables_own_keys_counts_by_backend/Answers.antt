-- No entry has its mountpoint.
use Rattle.mount_table.proofs.ByKeyLemmas.{own-by_backend}
use Rattle.mount_table.proofs.laws.the_mount_of_a_tables_own_keys_counts_by_backend.Goals as goal

pub returns : goal.returns
returns c = own-by_backend
