-- Each turn looks one name up.
use Rattle.std.proofs.Common.{Bool, Some, None, cond, is_some, sym, ap, ◌∙◌, arith}
use Rattle.std.proofs.lemmas.List.{take_all}
use Rattle.std.specs.FinMap.{find}
use Rattle.general_words.specs.Searches.{first_some}
use Rattle.general_words.proofs.Lists.{at_place}
use Rattle.general_words.proofs.Searches.{first_some-found, first_some-next}
use Rattle.model_names.specs.Name.{Name}
use Rattle.model_names.specs.Order.{name_cmp}
use Rattle.commit_log.specs.declared.commits.Change.{Change}
use Rattle.commit_undo.proofs.InverseLemmas.{first_name-seen, passing}
use Rattle.commit_undo.proofs.overtaking.first_name.Goals as goal

pub returns-then-has : goal.returns-then-has
returns-then-has c =
    let test : Name → Bool = λ name. is_some (find name_cmp name c.args.names.now) in
    let change : Change = c.change-item.result in
    let there = at_place c.args.changes.now c.loop-change.change-index change c.loop-change-test.true c.change-item.is in
    sym (first_name-seen test c.args.changes.now
    ∙ first_some-found (passing test) c.args.changes.now c.loop-change.change-index change change.name there
    c.loop-change.invariant (ap (λ b. cond b (Some change.name) None) (sym c.has.ensures ∙ c.if-has.true)))

pub loop-change-preserved : goal.loop-change-preserved
loop-change-preserved c =
    let test : Name → Bool = λ name. is_some (find name_cmp name c.args.names.now) in
    let change : Change = c.change-item.result in
    let there = at_place c.args.changes.now c.loop-change.change-index change c.loop-change-test.true c.change-item.is in
    first_some-next (passing test) c.args.changes.now c.loop-change.change-index change there
    c.loop-change.invariant (ap (λ b. cond b (Some change.name) None) (sym c.has.ensures ∙ c.if-has.false))

pub returns : goal.returns
returns c =
    let test : Name → Bool = λ name. is_some (find name_cmp name c.args.names.now) in
    sym (first_name-seen test c.args.changes.now
    ∙ ap (first_some (passing test)) (sym (take_all c.loop-change.change-index c.args.changes.now (omega (arith, c.loop-change-test.false))))
    ∙ c.loop-change.invariant)
