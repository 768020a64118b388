-- Lines are counted by their line feeds.
use Rattle.std.specs.Prelude.{◌≡◌, ◌≢◌, ℕ, ◌+◌, ◌==◌, Bool, true, false, not, if◌then◌else◌, count_by, List, [], ◌∷◌, length}
use Rattle.std.specs.List.{onto_first}
use Rattle.std.proofs.Common.{refl, sym, ap, ◌∙◌, arith}
use Rattle.std.proofs.lemmas.List.Sums.{sum_by-cons}
use Rattle.model_lines.specs.Lines.{lines}
use Rattle.batch_script.specs.Scripts.{feeds_and_rest, has_rest}

one-line : (t : Bool) (line : List ℕ)
    → length (if t then [] ∷ [] else line ∷ []) ≡ (if t then 1 else 0) + (if not t then 1 else 0)
one-line true line = refl
one-line false line = refl

more-lines : (t : Bool) (b : ℕ) (ls : List (List ℕ)) → ls ≢ []
    → length (if t then [] ∷ ls else onto_first b ls) ≡ (if t then 1 else 0) + length ls
more-lines true b ls some = omega arith
more-lines false b [] some = absurd (some refl)
more-lines false b (line ∷ ls) some = omega arith

lines-some : (t : Bool) (b : ℕ) (ls : List (List ℕ)) → (if t then [] ∷ ls else onto_first b ls) ≢ []
lines-some true b ls e = absurd cc
lines-some false b [] e = absurd cc
lines-some false b (line ∷ ls) e = absurd cc

counts : (b : ℕ) (bytes : List ℕ)
    → count_by (λ c. c == 10) (b ∷ bytes) ≡ (if b == 10 then 1 else 0) + count_by (λ c. c == 10) bytes
counts b bytes = sum_by-cons (λ (c : ℕ). if c == 10 then 1 else 0) b bytes

regrouped : (a m n k r : ℕ) → n ≡ a + m → m ≡ k + r → n ≡ (a + k) + r
regrouped a m n k r e f = omega arith

pub length-lines : (bytes : List ℕ) → length (lines bytes) ≡ feeds_and_rest bytes
length-lines [] = refl
length-lines (b ∷ []) =
    let rest : ℕ = if not (b == 10) then 1 else 0 in
    one-line (b == 10) (b ∷ []) ∙ ap (λ n. n + rest) (add-none (if b == 10 then 1 else 0))
    ∙ ap (λ n. n + rest) (sym (counts b []))
  where
    add-none : (n : ℕ) → n ≡ n + 0
    add-none n = omega arith
length-lines (b ∷ c ∷ bytes) =
    let rest : ℕ = if has_rest (c ∷ bytes) then 1 else 0 in
    let feed : ℕ = if b == 10 then 1 else 0 in
    regrouped feed (length (lines (c ∷ bytes))) (length (lines (b ∷ c ∷ bytes))) (count_by (λ c. c == 10) (c ∷ bytes)) rest
    (more-lines (b == 10) b (lines (c ∷ bytes)) (lines-some (c == 10) c (lines bytes))) (length-lines (c ∷ bytes))
    ∙ ap (λ n. n + rest) (sym (counts b (c ∷ bytes)))
