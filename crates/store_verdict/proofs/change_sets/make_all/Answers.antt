-- Each turn makes one change more.
use Rattle.std.proofs.Common.{sym, ap, ◌∙◌}
use Rattle.model_history.specs.Changes.{changed}
use Rattle.general_words.proofs.Lists.{at_place}
use Rattle.store_verdict.proofs.ChangeSetLemmas.{made-next, seen_change}
use Rattle.store_verdict.proofs.change_sets.make_all.Goals as goal

pub loop-change-preserved : goal.loop-change-preserved
loop-change-preserved c =
    c.in_ok-make.ensures
    ∙ ap (λ keys. changed keys (seen_change c.change-item.result)) c.loop-change.invariant
    ∙ sym (made-next c.args.changes.now c.loop-change.change-index c.change-item.result c.args.keys.now (at_place c.args.changes.now c.loop-change.change-index c.change-item.result c.loop-change-test.true c.change-item.is))
