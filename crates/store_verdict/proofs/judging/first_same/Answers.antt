-- Each name that the mount owns adds the first commit that changes it.
use Rattle.std.proofs.Common.{◌≡◌, ◌+◌, List, [], ◌∷◌, ◌++◌, take, map as over, nat_eq, Option, Some, sym, ap, ap₂, ◌∙◌}
use Rattle.std.specs.Option.{option_eq}
use Rattle.std.proofs.lemmas.List.{take_all}
use Rattle.general_words.proofs.Lists.{at_place}
use Rattle.key_set.specs.declared.entries.Entry as code
use Rattle.model_history.specs.Changes.{Change}
use Rattle.model_names.specs.Name.{Name}
use Rattle.set_split.specs.Involved.{owns}
use Rattle.store_verdict.specs.Blocking.{earlier}
use Rattle.store_verdict.proofs.BlockLemmas.{among-none, among-other, among-owned, first_among}
use Rattle.store_verdict.proofs.ChangeSetLemmas.{seen_change, seen-next}
use Rattle.store_verdict.proofs.judging.first_same.Goals as goal
use Rattle.store_verdict.proofs.judging.first_same.Goals.{then-eq, else-eq}

pub loop-name-init : goal.loop-name-init
loop-name-init c =
    sym (among-none c.args.points.now c.args.set.now.handle c.args.mount c.args.history.now.commits c.args.front)

pub loop-name-preserved : goal.loop-name-preserved
loop-name-preserved c =
    let points = c.args.points.now in
    let handle = c.args.set.now.handle in
    let m = c.args.mount in
    let history = c.args.history.now.commits in
    let front = c.args.front in
    let items : List (Name × Option code.Entry) = c.entries-name-items.result.now in
    let k = c.loop-name.name-index in
    let item : Name × Option code.Entry = c.loop-name-item.result in
    let before : List Change = over seen_change (take k items) in
    let next : over seen_change (take (k + 1) items) ≡ before ++ seen_change item ∷ [] = seen-next items k item (at_place items k item c.loop-name-test.true c.loop-name-item.is) in
    let test : c.eq.result ≡ owns points m item.0 = c.eq.ensures ∙ ap (λ o. option_eq nat_eq o (Some m)) c.owner.ensures in
    elim c.if-eq.branch [
      | then-eq w ↦
          w.first-is ∙ w.earlier-first.ensures ∙ ap₂ earlier c.loop-name.invariant w.first_change_after.ensures
          ∙ sym (ap (first_among points handle m history front) next ∙ among-owned points handle m history front before (seen_change item) (sym test ∙ w.if-eq.true))
      | else-eq w ↦
          w.first-is ∙ c.loop-name.invariant
          ∙ sym (ap (first_among points handle m history front) next ∙ among-other points handle m history front before (seen_change item) (sym test ∙ w.if-eq.false))
    ]

pub returns : goal.returns
returns c =
    c.loop-name.invariant
    ∙ ap (first_among c.args.points.now c.args.set.now.handle c.args.mount c.args.history.now.commits c.args.front)
    (ap (over seen_change) (take_all c.loop-name.name-index c.entries-name-items.result.now c.loop-name-test.false) ∙ c.entries-name-items.ensures)
