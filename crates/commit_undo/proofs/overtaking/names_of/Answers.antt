-- Each turn puts one name more among them.
use Rattle.std.proofs.Common.{ap, ◌∙◌}
use Rattle.std.specs.FinMap.Entries.{put}
use Rattle.general_words.proofs.Lists.{at_place}
use Rattle.model_names.specs.Order.{name_cmp}
use Rattle.commit_undo.proofs.InverseLemmas.{names-next}
use Rattle.commit_undo.proofs.overtaking.names_of.Goals as goal

pub loop-change-preserved : goal.loop-change-preserved
loop-change-preserved c =
    let there = at_place c.args.changes.now c.loop-change.change-index c.change-item.result c.loop-change-test.true c.change-item.is in
    names-next c.args.changes.now c.loop-change.change-index c.change-item.result tt c.loop-change.names c.insert.new.self there
    (c.in_ok-_former.ensures.ok ∙ ap (λ name. put name_cmp name tt c.loop-change.names) c.in_ok-copy.ensures)
    c.loop-change.invariant
