-- A child that is refused has no name.
use Rattle.key_name.specs.Children.{child_of}
use Rattle.key_name.proofs.ChildLemmas.{refused-no_name}
use Rattle.mount_table.proofs.EntryLemmas.{absent}
use Rattle.mount_table.proofs.entries.value_of.Goals as goal

pub returns : goal.returns
returns c =
    let above = c.args.above.now in
    let part = c.args.part.now in
    absent c.args.keys.now (child_of above part) (refused-no_name above part c.in-Err.fault c.in-Err.ensures.refused c.in_default.not-Memory)
