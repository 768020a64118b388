-- The own file makes the table, and its state is the first to be weighed.
use Rattle.mount_table.specs.Table.{own_mount}
use Rattle.mounted_files.proofs.OpeningLemmas.{begins-first}
use Rattle.mounted_files.proofs.WritableLemmas.{writable-first}
use Rattle.mounted_files.proofs.opening.Opening.new.Goals as goal

pub returns-in_ok-begun-in-Ok-clause-begins : goal.returns-in_ok-begun-in-Ok-clause-begins
returns-in_ok-begun-in-Ok-clause-begins g c = λ bytes_of is_whole.
    let begun = c.in_ok-begun-in-Ok.ensures in
    begins-first g.F.Formats.reads g.F.Formats.is_bad_at bytes_of c.in_ok-begun-in-Ok.field-0 c.in-Ok.field-0.table c.in-Ok.field-0.keys
    (c.in-Ok.ensures.read (bytes_of own_mount.file) is_whole) c.in-Ok.ensures.table begun.table begun.own begun.none

pub returns-in-Err-clause-begins : goal.returns-in-Err-clause-begins
returns-in-Err-clause-begins g c = λ bytes_of is_whole. c.in-Err.ensures.read (bytes_of own_mount.file) is_whole

pub returns-in_ok-begun-in-Ok-clause-storable : goal.returns-in_ok-begun-in-Ok-clause-storable
returns-in_ok-begun-in-Ok-clause-storable g c =
    let begun = c.in_ok-begun-in-Ok.ensures in
    writable-first g.F.Formats.is_storable c.in_ok-begun-in-Ok.field-0 c.in-Ok.field-0.table c.in-Ok.field-0.keys c.in-Ok.ensures.storable begun.table begun.own begun.none
