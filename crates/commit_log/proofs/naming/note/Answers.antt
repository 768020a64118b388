use Rattle.std.proofs.Common.{◌++◌, ◌∷◌, [], Some, cond, refl, ap, subst, ◌∙◌, IsSome}
use Rattle.std.specs.Option.{option_map_or}
use Rattle.std.specs.BTreeMap.{get}
use Rattle.std.specs.Ordering.{eq_by_cmp}
use Rattle.model_names.specs.Order.{name_cmp}
use Rattle.commit_log.proofs.NamingLemmas.{noted}
use Rattle.commit_log.proofs.naming.note.Goals as goal

pub returns-in-Some : goal.returns-in-Some
returns-in-Some c =
    let there = c.in-Some.ensures.value in
    noted c.args.names.now (c.get_mut.follows.lender c.push.new.self) c.args.name.now c.args.mark c.push.new.self
    (c.in_ok-push.ensures.items ∙ ap (λ o. option_map_or (λ marks. marks.items) o [] ++ c.args.mark ∷ []) there)
    (λ other. ((c.get_mut.follows.holds c.push.new.self).3 (subst IsSome there refl)).0 other)

pub returns : goal.returns
returns c =
    let none = c.new-marks.ensures.items ∙ ap (λ o. option_map_or (λ marks. marks.items) o []) c.in_default.ensures.value in
    noted c.args.names.now c.insert.new.self c.args.name.now c.args.mark c.push-2.new.self
    (c.in_ok-push-2.ensures.items ∙ ap (λ marks. marks ++ c.args.mark ∷ []) none)
    (λ other.
    c.in_ok-insert.ensures.updates.0 other
    ∙ ap (λ name. cond (eq_by_cmp name_cmp name other) (Some c.push-2.new.self) (get name_cmp c.get_mut.follows.lender-at-none other)) c.in_ok-copy.ensures
    ∙ ap (λ names. cond (eq_by_cmp name_cmp c.args.name.now other) (Some c.push-2.new.self) (get name_cmp names other)) c.get_mut.follows.holds-at-none)
