use Rattle.std.proofs.Common.{map, sym, ap, ◌∙◌}
use Rattle.std.proofs.lemmas.Map.Keys.{any_passes_from_place}
use Rattle.std.specs.List.{list_any}
use Rattle.model_names.specs.Order.{name_eq}
use Rattle.commit_log.specs.CommitView.{change_of}
use Rattle.commit_log.proofs.LogLemmas.{change-at, none-next, none-whole}
use Rattle.commit_log.proofs.commits.changes_name.Goals as goal

pub returns-then-eq : goal.returns-then-eq
returns-then-eq c =
    let changes = c.as_slice-change-items.result.now in
    let there = change-at changes c.loop-change.change-index c.change-item.result c.loop-change-test.true c.change-item.is in
    sym (ap (λ cs. list_any (λ change. name_eq c.args.name.now change.0) (map change_of cs)) (sym c.as_slice-change-items.ensures)
    ∙ any_passes_from_place (λ change. name_eq c.args.name.now change.0) (map change_of changes) c.loop-change.change-index (change_of c.change-item.result) there (sym c.eq.ensures ∙ c.if-eq.true))

pub loop-change-preserved : goal.loop-change-preserved
loop-change-preserved c =
    let changes = c.as_slice-change-items.result.now in
    let there = change-at changes c.loop-change.change-index c.change-item.result c.loop-change-test.true c.change-item.is in
    none-next (λ change. name_eq c.args.name.now change.0) (map change_of changes) c.loop-change.change-index (change_of c.change-item.result) there c.loop-change.invariant (sym c.eq.ensures ∙ c.if-eq.false)

pub returns : goal.returns
returns c =
    sym (ap (λ cs. list_any (λ change. name_eq c.args.name.now change.0) (map change_of cs)) (sym c.as_slice-change-items.ensures)
    ∙ none-whole (λ change. name_eq c.args.name.now change.0) change_of c.as_slice-change-items.result.now c.loop-change.change-index c.loop-change-test.false c.loop-change.invariant)
