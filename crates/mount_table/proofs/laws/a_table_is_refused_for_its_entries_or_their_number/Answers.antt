-- Neither an entry nor the number of mounts has another fault.
use Rattle.mount_table.proofs.FaultLemmas.{of_table}
use Rattle.mount_table.proofs.laws.a_table_is_refused_for_its_entries_or_their_number.Goals as goal

pub returns : goal.returns
returns c keys = of_table keys
