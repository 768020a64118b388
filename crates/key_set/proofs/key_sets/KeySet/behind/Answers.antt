-- The keys are those of the chunks, each behind the point.
use Rattle.std.proofs.Common.{Some, None, sym, ap, ◌∙◌, subst}
use Rattle.std.specs.FinMap as map
use Rattle.std.specs.List.{AllByRecursion}
use Rattle.std.proofs.lemmas.Bool.{cond-true, cond-false}
use Rattle.std.proofs.lemmas.Option.{cond_some}
use Rattle.key_set.specs.EntryView.{keys_of}
use Rattle.key_set.specs.Whole.{all_fit, whole}
use Rattle.key_set.proofs.SetLemmas.{entries-keys}
use Rattle.key_set.proofs.WholeLemmas.{is_cascading, cascading-seen, fit-keys, none_if, whole-keys}
use Rattle.key_set.proofs.key_sets.KeySet.behind.Goals as goal

pub renamed-requires : goal.renamed-requires
renamed-requires c =
    cascading-seen c.self.inside.keys (subst (AllByRecursion is_cascading) (ap map.entries (sym c.self.view_is) ∙ entries-keys c.self.inside.keys c.allocator.ensures.sorted) c.requires.cascading)

pub returns-in-Some : goal.returns-in-Some
returns-in-Some c =
    let keys = c.self.inside.keys in
    let point = c.args.point.now in
    let sorted = c.allocator.ensures.sorted in
    let cascading = cascading-seen keys (subst (AllByRecursion is_cascading) (ap map.entries (sym c.self.view_is) ∙ entries-keys keys sorted) c.requires.cascading) in
    let is = cond_some _ _ c.in-Some.keys (sym c.in_ok-keys.ensures.renamed ∙ c.in-Some.is) in
    ap Some (ap keys_of (sym is.1) ∙ whole-keys point keys sorted cascading ∙ ap (whole point) c.self.view_is)
    ∙ sym (cond-true (all_fit point c.args.self) (Some (whole point c.args.self)) None (ap (all_fit point) (sym c.self.view_is) ∙ sym (fit-keys point keys sorted) ∙ is.0))

pub returns-in-None : goal.returns-in-None
returns-in-None c =
    let keys = c.self.inside.keys in
    let point = c.args.point.now in
    let fails = none_if _ _ (sym c.in-None.is ∙ c.in_ok-keys.ensures.renamed) in
    sym (cond-false (all_fit point c.args.self) (Some (whole point c.args.self)) None (ap (all_fit point) (sym c.self.view_is) ∙ sym (fit-keys point keys c.allocator.ensures.sorted) ∙ fails))
