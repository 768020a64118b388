use Rattle.std.proofs.Common.{drop, ◌∙◌, ap}
use Rattle.journal_steps.specs.JournalBytes.{open_length}
use Rattle.journal_steps.proofs.Heads.{open_length-front}
use Rattle.journal_lists.proofs.reading.read_length.Goals as goal

pub returns-clause-told : goal.returns-clause-told
returns-clause-told g c tells =
    let fills = c.in_ok-count.ensures.told tells in
    c.length_in.ensures ∙ ap open_length fills.front
    ∙ open_length-front (drop c.args.at (g.D.Disk.seen c.args.disk.now c.args.journal.now)) c.in_ok-count.count fills.count
