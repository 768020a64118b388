-- Each turn adds one name more.
use Rattle.std.proofs.Common.{◌≡◌, ◌∙◌, ◌++◌, ◌∷◌, Some, ap, append_assoc, slice_get, sym, take}
use Rattle.std.specs.List.{flat_map}
use Rattle.std.specs.Prelude.{codes}
use Rattle.general_words.proofs.Lists.{at_place, flat_map-more}
use Rattle.model_quoting.specs.Quoted.{shown}
use Rattle.kdb_print.proofs.replying.line_of_conflicts.Goals as goal

pub loop-name-preserved : goal.loop-name-preserved
loop-name-preserved c =
    let names = c.args.names.now in
    let i = c.loop-name.name-index in
    let item = c.name-item.result in
    let there : Some item ≡ slice_get names i = at_place names i item c.loop-name-test.true c.name-item.is in
    let before = flat_map (λ name. 32 ∷ shown name) (take i names) in
    let one = 32 ∷ shown item in
    c.in_ok-push_name.ensures
    ∙ (ap (λ line. line ++ one) c.loop-name.invariant
    ∙ (append_assoc (codes "merge-conflict") before one ∙ ap (λ rest. codes "merge-conflict" ++ rest) (sym (flat_map-more (λ name. 32 ∷ shown name) names i item there))))
