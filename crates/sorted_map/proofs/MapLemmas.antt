-- What a change of entries in the order of their keys does to the finite map that they make.
use Rattle.std.proofs.Common.{◌≡◌, ℕ, get_or, set, T, List, Some, None, sym, ap, ◌∙◌}
use Rattle.std.specs.Cmp.{IsTotalOrder}
use Rattle.std.specs.FinMap.{IsAntisymmetric, get, insert, remove, from_sorted, is_sorted, get-from_sorted}
use Rattle.std.specs.declared.cmp.Ordering.{Ordering}
use Rattle.std.specs.List.{remove as without}
use Rattle.sorted_map.specs.Place.{IsPlace, IsGap}
use Rattle.sorted_map.proofs.RisingLemmas.{find-place, put-place, without-place, find-gap, without-gap}
use Rattle.general_words.proofs.Maps.{from_sorted-put, from_sorted-without}

-- Places of entries: what the map of entries has at a key that stands among them.
module _ {K X : Type 0} (R : K → K → Ordering) (o : IsTotalOrder R) (es : List (K × X)) (h : T (is_sorted R es)) (q : K) where
  pub get-place : (i : ℕ) (d : K × X) → IsPlace R es q i → Some (get_or es i d).1 ≡ get (from_sorted {R = R} es) q
  get-place i d there = sym (get-from_sorted R es q h ∙ find-place R o q es h i d there.in_range (there.tied d))

  pub get-gap : (i : ℕ) → IsGap R es q i → None ≡ get (from_sorted {R = R} es) q
  get-gap i gap = sym (get-from_sorted R es q h ∙ find-gap R o q es i gap)

  pub insert-place : (i : ℕ) (d : K × X) (v : X) → IsPlace R es q i
      → from_sorted {R = R} (set es i ((get_or es i d).0, v)) ≡ insert (from_sorted es) q v
  insert-place i d v there =
      ap (from_sorted {R = R}) (sym (put-place R o q v es h i d there.in_range (there.tied d)))
      ∙ from_sorted-put R o es q v h

  module _ (same : IsAntisymmetric R) where
    pub remove-place : (i : ℕ) (d : K × X) → IsPlace R es q i
        → from_sorted {R = R} (without es i) ≡ remove (from_sorted es) q
    remove-place i d there =
        ap (from_sorted {R = R}) (sym (without-place R o q es h i d there.in_range (there.tied d)))
        ∙ from_sorted-without R o same es q h

    pub remove-gap : (i : ℕ) → IsGap R es q i → from_sorted {R = R} es ≡ remove (from_sorted es) q
    remove-gap i gap = ap (from_sorted {R = R}) (sym (without-gap R o q es i gap)) ∙ from_sorted-without R o same es q h
