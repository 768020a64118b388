-- A key that belongs to the entry tells that its text is a name's.
use Rattle.std.proofs.Common.{sym}
use Rattle.mount_table.proofs.ChangingLemmas.{entry-refusal}
use Rattle.mount_table.proofs.changing.has_entry.Goals as goal

pub returns-then-belongs_to-clause-name : goal.returns-then-belongs_to-clause-name
returns-then-belongs_to-clause-name c _ =
    entry-refusal c.args.text.now c.in-Some.name.now c.if-belongs_to.ensures.well_formed (sym c.if-belongs_to.ensures.belongs)
