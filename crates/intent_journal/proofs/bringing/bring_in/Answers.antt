use Rattle.journal_lists.specs.Lists.{as_one}
use Rattle.intent_journal.proofs.BringSteps.{brought_first}
use Rattle.intent_journal.proofs.Steps.{bringing}
use Rattle.intent_journal.proofs.bringing.bring_in.Goals as goal

pub returns-clause-brought : goal.returns-clause-brought
returns-clause-brought g c tells =
    brought_first g.D.Disk c.args.disk.now c.bring_all.new.disk c.bring_all.result (as_one c.args.list.now) (c.bring_all.ensures.brings tells)

pub returns-clause-passes : goal.returns-clause-passes
returns-clause-passes g c tells names before state =
    bringing g.D.Disk c.args.disk.now c.bring_all.new.disk c.bring_all.result tells names before c.args.list.now c.bring_all.result state (c.bring_all.ensures.brings tells)
