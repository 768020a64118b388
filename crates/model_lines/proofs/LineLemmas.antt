-- Lines that end are cut where they end, no line holds a line feed, and dropping a carriage return drops nothing else.
use Rattle.std.specs.Prelude.{◌≡◌, ◌≢◌, ℕ, ◌==◌, List, [], ◌∷◌, ◌++◌}
use Rattle.std.proofs.Common.{refl, ap, ◌∙◌, append_assoc}
use Rattle.std.proofs.lemmas.Bool.{ne_eqb, cond-false, eqb-false, cond_both}
use Rattle.std.specs.List.{AllByRecursion, onto_first}
use Rattle.model_lines.specs.Lines.{lines, ended, without_return}

-- a byte that ends no line
abbrev pub IsInLine : ℕ → Type 0
IsInLine b = b ≢ 10

pub lines-line : (line rest : List ℕ) → AllByRecursion IsInLine line → lines (line ++ 10 ∷ rest) ≡ line ∷ lines rest
lines-line [] rest h = refl
lines-line (b ∷ line) rest h = cond-false (b == 10) _ _ (ne_eqb b 10 h.0) ∙ ap (onto_first b) (lines-line line rest h.1)

pub lines-ended : (all : List (List ℕ)) → AllByRecursion (AllByRecursion IsInLine) all → lines (ended all) ≡ all
lines-ended [] h = refl
lines-ended (line ∷ all) h =
    ap lines (append_assoc line (10 ∷ []) (ended all)) ∙ lines-line line (ended all) h.0
    ∙ ap (λ ls. line ∷ ls) (lines-ended all h.1)

onto_first-in_line : (b : ℕ) (all : List (List ℕ)) → IsInLine b → AllByRecursion (AllByRecursion IsInLine) all
    → AllByRecursion (AllByRecursion IsInLine) (onto_first b all)
onto_first-in_line b [] p h = ((p, tt), tt)
onto_first-in_line b (line ∷ all) p h = ((p, h.0), h.1)

pub lines-in_line : (bytes : List ℕ) → AllByRecursion (AllByRecursion IsInLine) (lines bytes)
lines-in_line [] = tt
lines-in_line (b ∷ bytes) =
    cond_both (b == 10) ([] ∷ lines bytes) (onto_first b (lines bytes)) (λ all. AllByRecursion (AllByRecursion IsInLine) all)
    (λ _. (tt, lines-in_line bytes))
    (λ other. onto_first-in_line b (lines bytes) (eqb-false b 10 other) (lines-in_line bytes))

pub without_return-same : (line : List ℕ) → AllByRecursion (λ b. b ≢ 13) line → without_return line ≡ line
without_return-same [] h = refl
without_return-same (b ∷ []) h = cond-false (b == 13) _ _ (ne_eqb b 13 h.0)
without_return-same (b ∷ c ∷ bytes) h = ap (λ t. b ∷ t) (without_return-same (c ∷ bytes) h.1)

pub all-without_return : (P : ℕ → Type 0) (line : List ℕ) → AllByRecursion P line
    → AllByRecursion P (without_return line)
all-without_return P [] h = tt
all-without_return P (b ∷ []) h =
    cond_both (b == 13) [] (b ∷ []) (λ bytes. AllByRecursion P bytes) (λ _. tt) (λ _. (h.0, tt))
all-without_return P (b ∷ c ∷ bytes) h = (h.0, all-without_return P (c ∷ bytes) h.1)
