-- What a search that ended tells of all entries.
use Rattle.std.proofs.Common.{◌≡◌, ℕ, ◌<◌, T, not, List, [], ◌∷◌, length, get_or, set, Some, None, Result, Ok, Err, IfOk, IfErr, sym, ap, ◌∙◌, subst, inl, inr, arith}
use Rattle.std.specs.Cmp.{IsTotalOrder}
use Rattle.std.specs.FinMap.{find, is_sorted}
use Rattle.std.specs.FinMap.Entries.{where_key}
use Rattle.std.specs.Ordering.{eq_by_cmp}
use Rattle.std.specs.declared.cmp.Ordering.{Ordering}
use Rattle.std.proofs.lemmas.Bool.{cases_lt}
use Rattle.std.proofs.lemmas.List.{set-get_or}
use Rattle.general_words.proofs.Lists.{same_default}
use Rattle.sorted_map.specs.Place.{IsPlace, IsGap}
use Rattle.sorted_map.proofs.RisingLemmas.{find-place, find-gap, without-gap}
use Rattle.chunked_map.specs.Chunks.{joined, AreChunks, IsChunkOf}
use Rattle.chunked_map.proofs.PlaceLemmas.{find_in, find_end, without_set, without_end}
use Rattle.chunked_map.proofs.SearchLemmas.{sorted_chunk}

module _ {K X : Type 0} (R : K → K → Ordering) (o : IsTotalOrder R) (q : K) (cs : List (List (K × X))) (at : ℕ) (home : IsChunkOf R cs q at) where
  itself : at < length cs → get_or cs at [] ≡ get_or cs at (get_or cs at [])
  itself lt = same_default cs at [] (get_or cs at []) lt

  -- the value at the place that was found
  pub found_spot : AreChunks R cs → (r : Result ℕ ℕ) (p : ℕ) → r ≡ Ok p → IfOk r (λ place. at < length cs)
      → IfOk r (λ place. IsPlace R (get_or cs at []) q place)
      → (v : X) → ((d : K × X) → v ≡ (get_or (get_or cs at []) p d).1) → Some v ≡ find R q (joined cs)
  found_spot are r p is within there v value =
      let lt : at < length cs = subst (λ r. IfOk r (λ place. at < length cs)) is within in
      let place : IsPlace R (get_or cs at []) q p = subst (λ r. IfOk r (λ place. IsPlace R (get_or cs at []) q place)) is there in
      let sorted : T (is_sorted R (get_or cs at [])) = sorted_chunk R o q cs are at lt (get_or cs at []) (itself lt) in
      with_first (get_or cs at []) (omega (arith, place.in_range)) (λ d. ap Some (value d) ∙ sym (find-place R o q (get_or cs at []) sorted p d place.in_range (place.tied d)) ∙ find_in R o q cs at (get_or cs at []) home lt (itself lt))
    where
      with_first : (es : List (K × X)) → 0 < length es → ((d : K × X) → Some v ≡ find R q (joined cs))
          → Some v ≡ find R q (joined cs)
      with_first [] some h = absurd (omega arith)
      with_first (e ∷ es) some h = h e

  module _ (r : Result ℕ ℕ) (p : ℕ) (is : r ≡ Err p) (missing : IfErr r (λ place. at < length cs → IsGap R (get_or cs at []) q place)) where
    gap : at < length cs → IsGap R (get_or cs at []) q p
    gap = subst (λ r. IfErr r (λ place. at < length cs → IsGap R (get_or cs at []) q place)) is missing

    -- no entry has a key of which only the gap was found
    pub missing_spot : None ≡ find R q (joined cs)
    missing_spot = elim (cases_lt at (length cs)) [
      | inl lt ↦ sym (find-gap R o q (get_or cs at []) p (gap lt)) ∙ find_in R o q cs at (get_or cs at []) home lt (itself lt)
      | inr past ↦ sym (find_end R o q cs at home past)
    ]

    pub without_spot : joined cs ≡ where_key R (λ k. not (eq_by_cmp R q k)) (joined cs)
    without_spot = elim (cases_lt at (length cs)) [
      | inl lt ↦
          ap joined (sym (set-get_or cs at []))
          ∙ ap (λ es. joined (set cs at es)) (sym (without-gap R o q (get_or cs at []) p (gap lt)))
          ∙ without_set R o q cs at (get_or cs at []) home lt (itself lt)
      | inr past ↦ without_end R o q cs at home past
    ]
