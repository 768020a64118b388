use Rattle.std.proofs.Common.{◌∙◌}
use Rattle.intent_journal.specs.Pending.{pending_in}
use Rattle.intent_journal.proofs.LeastNames.{first_above-none}
use Rattle.intent_journal.proofs.pending.nth_pending.Goals as goal

pub loop-init : goal.loop-init
loop-init c = c.least_in-found.ensures ∙ first_above-none (pending_in c.args.list.now)
