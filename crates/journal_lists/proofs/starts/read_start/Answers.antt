use Rattle.std.proofs.Common.{◌∙◌, ap}
use Rattle.journal_lists.specs.Starts.{start_of_head}
use Rattle.journal_lists.proofs.HeadReads.{start-front}
use Rattle.journal_lists.proofs.starts.read_start.Goals as goal

pub returns-clause-told : goal.returns-clause-told
returns-clause-told g c tells =
    let fills = c.in_ok-count.ensures.told tells in
    c.start_in.ensures ∙ ap start_of_head fills.front
    ∙ start-front (g.D.Disk.seen c.args.disk.now c.args.journal.now) c.in_ok-count.count fills.count
