-- What is got is short and light, and so is what is at or below the name.
use Rattle.tool_single.proofs.GetLemmas.{alone-limited}
use Rattle.tool_single.proofs.answering.keys_below.Goals as goal

pub returns-clause-limited : goal.returns-clause-limited
returns-clause-limited c =
    let found = c.in_ok-relative_to in
    alone-limited c.args.mounted.now c.args.name.now c.args.keys.now found.field-0 c.files-files.ensures.short c.files-files.ensures.light c.requires found.ensures.is found.ensures.sound
