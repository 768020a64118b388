-- A short name belongs to none.
use Rattle.std.proofs.Common.{◌<◌, subst}
use Rattle.mount_table.proofs.PlaceLemmas.{short-entry}
use Rattle.mount_table.proofs.entries.text_of_entry.Goals as goal

pub returns-then-len-lt3-clause-text : goal.returns-then-len-lt3-clause-text
returns-then-len-lt3-clause-text c =
    short-entry c.args.name.now (subst (λ n. n < 3) c.len.ensures.parts c.if-len-lt3.true)
