-- Numbers from a first one to a last: the first of them is gone through.
use Rattle.std.specs.Prelude.{◌≡◌, ℕ, suc, ◌+◌, ◌-◌, ◌≤◌, List, ◌∷◌, ◌++◌, sum}
use Rattle.std.specs.List.{flat_map, range_with_len}
use Rattle.std.proofs.Common.{sym, ap, ◌∙◌, arith, append_assoc}
use Rattle.std.proofs.lemmas.List.Sums.{sum_by-cons}

abbrev pub up_to : ℕ → ℕ → List ℕ
up_to first last = range_with_len first (last + 1 - first)

pub up_to-first : (first last : ℕ) → first ≤ last → up_to first last ≡ first ∷ up_to (first + 1) last
up_to-first first last within =
    let more : last + 1 - first ≡ suc (last + 1 - (first + 1)) = omega arith in
    ap (range_with_len first) more

pub flat_map-first : {A : Type 0} (f : ℕ → List A) (done : List A) (first last : ℕ) → first ≤ last
    → (done ++ f first) ++ flat_map f (up_to (first + 1) last) ≡ done ++ flat_map f (up_to first last)
flat_map-first f done first last within =
    append_assoc done (f first) (flat_map f (up_to (first + 1) last))
    ∙ ap (λ ns. done ++ flat_map f ns) (sym (up_to-first first last within))

pub sum-first : (first last : ℕ) → first ≤ last → sum (up_to first last) ≡ first + sum (up_to (first + 1) last)
sum-first first last within =
    ap sum (up_to-first first last within) ∙ sum_by-cons (λ (n : ℕ). n) first (up_to (first + 1) last)
