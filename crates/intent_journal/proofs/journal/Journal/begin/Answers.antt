use Rattle.std.proofs.Common.{◌≤◌, arith}
use Rattle.std.specs.Vec.{vec_capacity}
use Rattle.journal_lists.specs.Grammar.{most_entries}
use Rattle.intent_journal.proofs.BothSteps.{sound_fresh}
use Rattle.intent_journal.proofs.journal.Journal.begin.Goals as goal

pub invariant_of-result : goal.invariant_of-result
invariant_of-result g c =
    let spare : most_entries ≤ vec_capacity c.clear.new.self = omega arith in
    sound_fresh (g.D.Disk.tells c.args.disk) (g.D.Disk.may_leave c.args.disk) c.args.name c.clear.new.self.items (vec_capacity c.clear.new.self) c.requires.name c.clear.ensures.items spare
