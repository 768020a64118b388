-- The laws of the comparisons of names.
use Rattle.std.specs.Prelude.{◌≡◌}
use Rattle.std.specs.Cmp.{IsEquivalence, and_equiv, on_equiv, nat_eq_equiv, both_tied, unsigned_ties}
use Rattle.std.specs.Cmp.Lexicographic.{lists_equiv, lists_ties, nat_list_eq_equiv, slice_cmp, texts_ties}
use Rattle.std.specs.Ordering.{eq_by_cmp, nat_cmp}
use Rattle.model_names.specs.Name.{Name, rank}
use Rattle.model_names.specs.Order.{name_cmp, name_eq}

pub name_eq_equiv : IsEquivalence name_eq
name_eq_equiv =
    and_equiv (on_equiv (λ (n : Name). rank n.namespace) nat_eq_equiv) (on_equiv (λ (n : Name). n.parts) (lists_equiv nat_list_eq_equiv))

-- names are equal where they tie
pub name_ties : (x y : Name) → name_eq x y ≡ eq_by_cmp name_cmp x y
name_ties x y =
    both_tied _ _ (nat_cmp (rank x.namespace) (rank y.namespace)) (slice_cmp (slice_cmp nat_cmp) x.parts y.parts) (unsigned_ties (rank x.namespace) (rank y.namespace)) (lists_ties (slice_cmp nat_cmp) texts_ties x.parts y.parts)
