use Rattle.std.proofs.Common.{sym, ap, ◌∙◌}
use Rattle.model_history.specs.Changes.{changed}
use Rattle.commit_log.specs.CommitView.{change_of}
use Rattle.commit_log.proofs.LogLemmas.{make-next}
use Rattle.commit_log.proofs.replaying.make_changes.Goals as goal

pub loop-change-preserved : goal.loop-change-preserved
loop-change-preserved c =
    c.in_ok-make.ensures.ok
    ∙ ap (λ keys. changed keys (change_of c.change-item.result)) c.loop-change.invariant
    ∙ sym (make-next c.args.changes.now c.loop-change.change-index c.change-item.result c.args.keys.now c.loop-change-test.true c.change-item.is)
