-- A write behind a front of a file's bytes, seen from the end of the front on.
use Rattle.std.proofs.Common.{◌≡◌, ℕ, zero, suc, ◌+◌, List, [], ◌∷◌, ◌++◌, length, take, drop, slice_get, sym, ap, ◌∙◌, subst, arith, append_assoc, length-append, take-append-drop, take-take}
use Rattle.std.proofs.lemmas.List.{append_cancel_left}
use Rattle.std.proofs.Math.Seq.{take-append-add, drop-append-add, take-append_seam}
use Rattle.kdb_outside.specs.Files.{written}
use Rattle.kdb_outside.specs.Images.{IsTornWrite}

-- what stands behind a front
pub slice_get-behind : (front rest : List ℕ) (n i : ℕ) → n ≡ length front + i
    → slice_get (front ++ rest) n ≡ slice_get rest i
slice_get-behind [] rest n i e = ap (slice_get rest) (omega arith)
slice_get-behind (x ∷ front) rest zero i e = absurd (omega arith)
slice_get-behind (x ∷ front) rest (suc n) i e = slice_get-behind front rest n i (omega arith)

take-behind : (front rest : List ℕ) (n i : ℕ) → n ≡ length front + i → take n (front ++ rest) ≡ front ++ take i rest
take-behind front rest n i e = ap (λ k. take k (front ++ rest)) e ∙ take-append-add front rest i

drop-behind : (front rest : List ℕ) (n i : ℕ) → n ≡ length front + i → drop n (front ++ rest) ≡ drop i rest
drop-behind front rest n i e = ap (λ k. drop k (front ++ rest)) e ∙ drop-append-add front rest i

-- of a file whose front stays, the rest was torn
torn_rest : (front bytes rest now : List ℕ) (place at : ℕ) → place ≡ length front + at
    → IsTornWrite place bytes (front ++ rest) (front ++ now) → IsTornWrite at bytes rest now
torn_rest front bytes rest now place at placed torn = record {
  front = append_cancel_left front (take at now) (take at rest)
      (sym (take-behind front now place at placed) ∙ torn.front ∙ take-behind front rest place at placed);
  back =
      let ends : place + length bytes ≡ length front + (at + length bytes) = omega arith in
      sym (drop-behind front now (place + length bytes) (at + length bytes) ends) ∙ torn.back ∙ drop-behind front rest (place + length bytes) (at + length bytes) ends;
  no_shorter = omega (arith, torn.no_shorter, length-append front rest, length-append front now);
  no_longer = omega (arith, torn.no_longer, length-append front rest, length-append front now);
  same = λ i within was.
      let there : place + i ≡ length front + (at + i) = omega arith in
      let before = slice_get-behind front rest (place + i) (at + i) there in
      sym (slice_get-behind front now (place + i) (at + i) there) ∙ torn.same i within (before ∙ was) ∙ before;
}

-- a write behind a front leaves the front
front_stays : (front bytes rest now : List ℕ) (place at : ℕ) → place ≡ length front + at
    → IsTornWrite place bytes (front ++ rest) now → take (length front) now ≡ front
front_stays front bytes rest now place at placed torn =
    sym (take-take (length front) place now (omega arith)) ∙ ap (take (length front)) torn.front
    ∙ take-take (length front) place (front ++ rest) (omega arith) ∙ take-append_seam front rest

pub torn_behind : (front bytes rest now : List ℕ) (place at : ℕ) → place ≡ length front + at
    → IsTornWrite place bytes (front ++ rest) now
    → (behind : List ℕ) × (now ≡ front ++ behind) × IsTornWrite at bytes rest behind
torn_behind front bytes rest now place at placed torn =
    let behind = drop (length front) now in
    let joins : now ≡ front ++ behind =
    sym (take-append-drop (length front) now) ∙ ap (λ start. start ++ behind) (front_stays front bytes rest now place at placed torn) in
    (behind, joins, torn_rest front bytes rest behind place at placed (subst (λ c. IsTornWrite place bytes (front ++ rest) c) joins torn))

pub written_behind : (front rest bytes : List ℕ) (place at : ℕ) → place ≡ length front + at
    → written (front ++ rest) place bytes ≡ front ++ written rest at bytes
written_behind front rest bytes place at placed =
    let ends : place + length bytes ≡ length front + (at + length bytes) = omega arith in
    ap (λ start. start ++ bytes ++ drop (place + length bytes) (front ++ rest)) (take-behind front rest place at placed)
    ∙ ap (λ end. (front ++ take at rest) ++ bytes ++ end) (drop-behind front rest (place + length bytes) (at + length bytes) ends)
    ∙ ap (λ start. start ++ drop (at + length bytes) rest) (append_assoc front (take at rest) bytes)
    ∙ append_assoc front (take at rest ++ bytes) (drop (at + length bytes) rest)
