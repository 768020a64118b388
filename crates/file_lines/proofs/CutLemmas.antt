-- Lines by the places at which they are cut.
use Rattle.std.proofs.Common.{◌≡◌, ◌≢◌, ℕ, ◌+◌, ◌<◌, ◌==◌, List, [], ◌∷◌, ◌++◌, length, take, drop, get_or, refl, sym, ap, ◌∙◌, arith}
use Rattle.std.specs.List.{AllByRecursion, onto_first}
use Rattle.std.proofs.lemmas.Bool.{ne_eqb, cond-false}
use Rattle.std.proofs.lemmas.List.{take_more, take_all, drop_more, take-append-drop}
use Rattle.model_lines.specs.Lines.{lines, without_return}
use Rattle.model_lines.proofs.LineLemmas.{IsInLine, lines-line}

pub split_at : {A : Type 0} (xs : List A) (i : ℕ) (d : A) → i < length xs
    → xs ≡ take i xs ++ get_or xs i d ∷ drop (i + 1) xs
split_at xs i d lt = sym (take-append-drop i xs) ∙ ap (λ rest. take i xs ++ rest) (drop_more xs i d lt)

-- ---- lines

lines-last : (line : List ℕ) (b : ℕ) → AllByRecursion IsInLine (b ∷ line) → lines (b ∷ line) ≡ (b ∷ line) ∷ []
lines-last [] b h = cond-false (b == 10) _ _ (ne_eqb b 10 h.0)
lines-last (c ∷ line) b h = cond-false (b == 10) _ _ (ne_eqb b 10 h.0) ∙ ap (onto_first b) (lines-last line c h.1)

pub lines-one : (line : List ℕ) → 0 < length line → AllByRecursion IsInLine line → lines line ≡ line ∷ []
lines-one [] some h = absurd (omega arith)
lines-one (b ∷ line) some h = lines-last line b h

pub lines-cut : (bytes : List ℕ) (i : ℕ) → i < length bytes → AllByRecursion IsInLine (take i bytes)
    → get_or bytes i 0 ≡ 10 → lines bytes ≡ take i bytes ∷ lines (drop (i + 1) bytes)
lines-cut bytes i lt h feed =
    ap lines (split_at bytes i 0 lt ∙ ap (λ b. take i bytes ++ b ∷ drop (i + 1) bytes) feed)
    ∙ lines-line (take i bytes) (drop (i + 1) bytes) h

-- ---- a carriage return at the end

return-dropped : (line : List ℕ) → without_return (line ++ 13 ∷ []) ≡ line
return-dropped [] = refl
return-dropped (b ∷ []) = refl
return-dropped (b ∷ c ∷ line) = ap (λ rest. b ∷ rest) (return-dropped (c ∷ line))

other-kept : (line : List ℕ) (b : ℕ) → b ≢ 13 → without_return (line ++ b ∷ []) ≡ line ++ b ∷ []
other-kept [] b h = cond-false (b == 13) _ _ (ne_eqb b 13 h)
other-kept (a ∷ []) b h = ap (λ rest. a ∷ rest) (cond-false (b == 13) _ _ (ne_eqb b 13 h))
other-kept (a ∷ c ∷ line) b h = ap (λ rest. a ∷ rest) (other-kept (c ∷ line) b h)

whole : {A : Type 0} (xs : List A) (i : ℕ) (d : A) → i + 1 ≡ length xs → xs ≡ take i xs ++ get_or xs i d ∷ []
whole xs i d e = sym (take_all (i + 1) xs (omega arith)) ∙ take_more xs i d (omega arith)

pub without_return-dropped : (line : List ℕ) (i : ℕ) → i + 1 ≡ length line → get_or line i 0 ≡ 13
    → take i line ≡ without_return line
without_return-dropped line i e is =
    sym (ap without_return (whole line i 0 e ∙ ap (λ b. take i line ++ b ∷ []) is) ∙ return-dropped (take i line))

pub without_return-kept : (line : List ℕ) (i : ℕ) → i + 1 ≡ length line → get_or line i 0 ≢ 13
    → line ≡ without_return line
without_return-kept line i e other =
    whole line i 0 e ∙ sym (ap without_return (whole line i 0 e) ∙ other-kept (take i line) (get_or line i 0) other)
