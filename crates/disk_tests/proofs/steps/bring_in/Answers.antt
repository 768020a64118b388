use Rattle.std.proofs.Common.{◌≡◌, length, sym, subst, ◌∙◌, arith}
use Rattle.intent_journal.specs.Pending.{pending_in, HasBroughtTo}
use Rattle.disk_tests.proofs.steps.bring_in.Goals as goal

pub close_gate-requires-clause-applied : goal.close_gate-requires-clause-applied
close_gate-requires-clause-applied g c tells =
    let list = c.args.journal.now.list in
    let leaves = g.D.Disk.may_leave c.loop-i.journal.disk in
    let ended : c.loop-i.i ≡ length (pending_in list) = omega (arith, c.pending-count.ensures, c.loop-i-test.false, c.loop-i.auto.i-end) in
    let brought = c.loop-i.invariant.brought (sym c.loop-i.invariant.tells ∙ tells) in
    subst (λ l. HasBroughtTo leaves l (length (pending_in l))) (sym c.loop-i.invariant.list) (subst (λ n. HasBroughtTo leaves list n) ended brought)
