-- What is left is what the entries have left.
use Rattle.std.proofs.Common.{inl, inr, ◌⊎◌, sym, ap, ◌∙◌, subst, not}
use Rattle.std.specs.FinMap.Entries.{where_key}
use Rattle.std.specs.Ordering.{eq_by_cmp}
use Rattle.std.specs.Result.{is_ok}
use Rattle.sorted_map.specs.Place.{IsPlace}
use Rattle.chunked_map.proofs.shared.Chunk.remove_at.Goals as goal

either : {P : Type 0} → P ⊎ P → P
either (inl p) = p
either (inr p) = p

pub returns-clause-ok : goal.returns-clause-ok
returns-clause-ok g c key place =
    let R = g.K.Ord.cmp in
    let was = either c.in_ok-make_mut.ensures.value ∙ c.self.view_is in
    c.make_mut.follows.holds c.remove_at.new.self (ap is_ok c.in_ok-make_mut.was)
    ∙ c.remove_at.ensures.removed key (subst (λ es. IsPlace R es key c.args.at) (sym was) place)
    ∙ ap (where_key R (λ k. not (eq_by_cmp R key k))) was
