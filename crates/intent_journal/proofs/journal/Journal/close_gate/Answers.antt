use Rattle.std.proofs.Common.{None}
use Rattle.journal_steps.specs.Outcomes.{with_entries}
use Rattle.intent_journal.proofs.LeastNames.{brought_everything}
use Rattle.intent_journal.proofs.Steps.{closing}
use Rattle.intent_journal.proofs.journal.Journal.close_gate.Goals as goal

pub returns-clause-passes : goal.returns-clause-passes
returns-clause-passes g c tells names before headed starts state =
    let old = c.args.self.now in
    closing g.D.Disk old.disk c.shut.new.self.disk c.shut.result tells names before old.list state (brought_everything (g.D.Disk.may_leave old.disk) old.list (c.requires.applied tells))
    (λ doubtful. c.shut.ensures.passes tells names (with_entries before old.list) headed starts None doubtful)
