-- The names at or below a name stand together in the order of names: none is before it, and a name between two of them
-- is one.
use Rattle.std.proofs.Common.{◌≡◌, Bool, false, T, ◌&&◌, nat_eq, List, [], ◌∷◌, refl, sym, ap, subst, ◌∙◌, eqb-true, eq-eqb}
use Rattle.std.specs.Cmp.{IsTotalOrder, tied_itself}
use Rattle.std.specs.Cmp.Lexicographic.{slice_cmp, pointwise}
use Rattle.std.specs.FinMap.{IsAntisymmetric, nat_cmp-IsAntisymmetric, slice_cmp-IsAntisymmetric}
use Rattle.std.specs.List.{starts_with}
use Rattle.std.specs.Ordering.{nat_cmp, is_lt, ordering_then}
use Rattle.std.specs.declared.cmp.Ordering.{Ordering}
use Rattle.std.specs.declared.cmp.Ordering.TheVariants.{Less, Equal, Greater}
use Rattle.std.proofs.lemmas.Cmp.{nat_cmp_total, nat_list_cmp_total}
use Rattle.std.proofs.lemmas.Slice.Eq.{bytes_eq-Decides}
use Rattle.model_names.specs.Below.{is_at_or_below}
use Rattle.model_names.specs.Name.{Name, Part, rank}
use Rattle.model_names.specs.Order.{name_cmp, part_cmp}
use Rattle.general_words.proofs.Tests.{both, first, second, true_of}

-- lists that have a list for their front
module _ {A : Type 0} {C : A → A → Ordering} (E : A → A → Bool) (o : IsTotalOrder C) (ties : IsAntisymmetric C) (same : (x y : A) → T (E x y) → x ≡ y) (itself : (x : A) → T (E x x)) where
  front_not_behind : (zs xs : List A) → T (starts_with E xs zs) → is_lt (slice_cmp C xs zs) ≡ false
  front_not_behind [] [] h = refl
  front_not_behind [] (x ∷ xs) h = refl
  front_not_behind (z ∷ zs) [] h = absurd h
  front_not_behind (z ∷ zs) (x ∷ xs) h =
      ap (λ r. is_lt (ordering_then r (slice_cmp C xs zs))) (ap (C x) (same z x (first _ _ h)) ∙ tied_itself o x)
      ∙ front_not_behind zs xs (second _ _ h)

  front_between : (zs xs ys : List A) → T (starts_with E ys zs) → slice_cmp C xs ys ≡ Less
      → is_lt (slice_cmp C xs zs) ≡ false → T (starts_with E xs zs)
  front_between [] xs ys h before not_before = tt
  front_between (z ∷ zs) xs [] h before not_before = absurd h
  front_between (z ∷ zs) [] (y ∷ ys) h before not_before = absurd cc
  front_between (z ∷ zs) (x ∷ xs) (y ∷ ys) h before not_before =
      let nearer : ordering_then (C x z) (slice_cmp C xs ys) ≡ Less = ap (λ w. ordering_then (C x w) (slice_cmp C xs ys)) (same z y (first _ _ h)) ∙ before in
      elim (C x z) as (λ r. C x z ≡ r → ordering_then r (slice_cmp C xs ys) ≡ Less → is_lt (ordering_then r (slice_cmp C xs zs)) ≡ false → T (E z x && starts_with E xs zs)) [
        | Less ↦ λ t p q. absurd cc
        | Equal ↦ λ t p q. both _ _ (subst (λ w. T (E z w)) (sym (ties x z t)) (itself z)) (front_between zs xs ys (second _ _ h) p q)
        | Greater ↦ λ t p q. absurd cc
      ] refl nearer not_before

same_part : (x y : Part) → T (pointwise nat_eq x y) → x ≡ y
same_part x y h = (bytes_eq-Decides x y).0 (true_of _ h)

part_itself : (x : Part) → T (pointwise nat_eq x x)
part_itself x = subst T (sym ((bytes_eq-Decides x x).1 refl)) tt

part_ties : IsAntisymmetric part_cmp
part_ties = slice_cmp-IsAntisymmetric nat_cmp-IsAntisymmetric

-- none of them is before the name
pub at_or_below-not_before : (above name : Name) → T (is_at_or_below above name) → is_lt (name_cmp name above) ≡ false
at_or_below-not_before above name h =
    let ranks : rank name.namespace ≡ rank above.namespace = eqb-true _ _ (true_of _ (first _ _ h)) in
    ap (λ r. is_lt (ordering_then r (slice_cmp part_cmp name.parts above.parts))) (ap (λ k. nat_cmp k (rank above.namespace)) ranks ∙ tied_itself nat_cmp_total (rank above.namespace))
    ∙ front_not_behind (pointwise nat_eq) nat_list_cmp_total part_ties same_part part_itself above.parts name.parts (second _ _ h)

-- a name that is not before it, and before one of them, is one of them
pub at_or_below-between : (above x y : Name) → T (is_at_or_below above y) → name_cmp x y ≡ Less
    → is_lt (name_cmp x above) ≡ false → T (is_at_or_below above x)
at_or_below-between above x y h before not_before =
    let ranks : rank y.namespace ≡ rank above.namespace = eqb-true _ _ (true_of _ (first _ _ h)) in
    let nearer : ordering_then (nat_cmp (rank x.namespace) (rank above.namespace)) (slice_cmp part_cmp x.parts y.parts) ≡ Less = ap (λ k. ordering_then (nat_cmp (rank x.namespace) k) (slice_cmp part_cmp x.parts y.parts)) (sym ranks) ∙ before in
    elim (nat_cmp (rank x.namespace) (rank above.namespace)) as (λ r. nat_cmp (rank x.namespace) (rank above.namespace) ≡ r → ordering_then r (slice_cmp part_cmp x.parts y.parts) ≡ Less → is_lt (ordering_then r (slice_cmp part_cmp x.parts above.parts)) ≡ false → T (is_at_or_below above x)) [
      | Less ↦ λ t p q. absurd cc
      | Equal ↦ λ t p q. both _ _ (subst T (sym (eq-eqb (rank x.namespace) (rank above.namespace) (nat_cmp-IsAntisymmetric _ _ t))) tt) (front_between (pointwise nat_eq) nat_list_cmp_total part_ties same_part part_itself above.parts x.parts y.parts (second _ _ h) p q)
      | Greater ↦ λ t p q. absurd cc
    ] refl nearer not_before
