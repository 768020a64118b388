-- A mount that is involved is told, and another is not.
use Rattle.std.proofs.Common.{◌≡◌, [], ◌∷◌, ◌++◌, map, sym, ap, ◌∙◌, append-nil}
use Rattle.std.specs.List.{filter, list_any, range_with_len}
use Rattle.std.proofs.lemmas.Bool.{cond-true, cond-false}
use Rattle.set_split.specs.declared.mounts.Root.{Root}
use Rattle.set_split.specs.Involved.{is_involved, is_involved_at}
use Rattle.set_split.proofs.MountLemmas.{filter-next}
use Rattle.set_split.proofs.mounts.involved.Goals as goal
use Rattle.set_split.proofs.mounts.involved.Goals.{then-is_involved+in_ok-push, else-is_involved}

pub loop-i-preserved : goal.loop-i-preserved
loop-i-preserved c =
    let points = c.args.points.now in
    let i = c.loop-i.i in
    let p = is_involved points c.args.parent.now in
    let told = filter p (range_with_len 0 i) in
    let test : c.is_involved.result ≡ p i = c.is_involved.ensures ∙ ap (λ roots. list_any (is_involved_at points i) (map (λ (root : Root). root.name) roots)) c.deref.ensures.value ∙ ap (list_any (is_involved_at points i)) c.in_ok-roots.ensures.names in
    elim c.if-is_involved.branch [
      | then-is_involved+in_ok-push w ↦ ap (λ m. m.items) w.mounts-is ∙ w.in_ok-push.ensures.items ∙ ap (λ xs. xs ++ i ∷ []) c.loop-i.invariant ∙ sym (filter-next p i ∙ ap (λ xs. told ++ xs) (cond-true (p i) _ _ (sym test ∙ w.if-is_involved.true)))
      | else-is_involved w ↦ ap (λ m. m.items) w.mounts-is ∙ c.loop-i.invariant ∙ sym (filter-next p i ∙ ap (λ xs. told ++ xs) (cond-false (p i) _ _ (sym test ∙ w.if-is_involved.false)) ∙ append-nil told)
    ]
