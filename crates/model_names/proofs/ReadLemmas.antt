-- What is read of a raw part, letter by letter and form by form.
use Rattle.std.specs.Prelude.{◌≡◌, ◌≢◌, ℕ, Bool, true, false, ◌||◌, ◌==◌, List, [], ◌∷◌, length, Option, Some, None, Result, Ok, Err, option_and_then, codes}
use Rattle.std.proofs.Common.{cond, refl, sym, ap, subst, ◌∙◌, inl, inr}
use Rattle.std.specs.Option.{option_map, option_flatten}
use Rattle.std.specs.Result.{result_map_both, result_ok}
use Rattle.std.proofs.lemmas.Bool.{cond-false, cases_eq, ne_eqb}
use Rattle.general_words.specs.Texts.{is_text}
use Rattle.model_names.specs.Name.{Part}
use Rattle.model_names.specs.Spells.{Move, Adds, Stays, GoesUp, meaning, part_of_text, put_letter, read_letters, read_part, unescaped}

-- ---- letters

-- what stands behind a backslash that waits for its byte, or behind none, without its escapes
abbrev pub unescaped_from : Bool → List ℕ → Option Part
unescaped_from true bytes = unescaped (92 ∷ bytes)
unescaped_from false bytes = unescaped bytes

pub read_letters-plain : (b : ℕ) (bytes : List ℕ) → b ≢ 92
    → read_letters (b ∷ bytes) ≡ put_letter 1 b (read_letters bytes)
read_letters-plain b [] other = cond-false (b == 92) _ _ (ne_eqb b 92 other)
read_letters-plain b (c ∷ bytes) other = cond-false (b == 92) _ _ (ne_eqb b 92 other)

ok-put_letter : (bytes letter : ℕ) (rest : Result Part ℕ)
    → result_ok (put_letter bytes letter rest) ≡ option_map (λ part. letter ∷ part) (result_ok rest)
ok-put_letter bytes letter (Ok part) = refl
ok-put_letter bytes letter (Err at) = refl

-- a byte that is no backslash
pub unescaped-plain : (b : ℕ) (bytes : List ℕ) → b ≢ 92
    → unescaped (b ∷ bytes) ≡ option_map (λ part. b ∷ part) (unescaped bytes)
unescaped-plain b bytes other = ap result_ok (read_letters-plain b bytes other) ∙ ok-put_letter 1 b (read_letters bytes)

-- the byte behind a backslash
pub unescaped-escape : (b : ℕ) (bytes : List ℕ)
    → unescaped_from true (b ∷ bytes)
    ≡ cond ((b == 92) || (b == 47)) (option_map (λ part. b ∷ part) (unescaped bytes)) None
unescaped-escape b bytes = by ((b == 92) || (b == 47)) (read_letters bytes)
  where
    by : (t : Bool) (rest : Result Part ℕ)
        → result_ok (cond t (put_letter 2 b rest) (Err 0))
        ≡ cond t (option_map (λ part. b ∷ part) (result_ok rest)) None
    by true rest = ok-put_letter 2 b rest
    by false rest = refl

-- a byte behind no backslash
pub unescaped-next : (b : ℕ) (bytes : List ℕ)
    → unescaped (b ∷ bytes)
    ≡ cond (b == 92) (unescaped_from (b == 92) bytes) (option_map (λ part. b ∷ part) (unescaped_from (b == 92) bytes))
unescaped-next b bytes =
    elim (cases_eq b 92) [
      | inl e ↦ subst (λ (b : ℕ). unescaped (b ∷ bytes) ≡ cond (b == 92) (unescaped_from (b == 92) bytes) (option_map (λ part. b ∷ part) (unescaped_from (b == 92) bytes))) (sym e) refl
      | inr other ↦ unescaped-plain b bytes other ∙ sym (ap (λ t. cond t (unescaped_from t bytes) (option_map (λ part. b ∷ part) (unescaped_from t bytes))) (ne_eqb b 92 other))
    ]

-- ---- forms

-- one answer for each form of a raw part: none or a dot, two dots, a percent sign, one of these two or a dot escaped,
-- and any other
abbrev pub for_form : {A : Type 0} → List ℕ → A → A → A → A → A → A → A → A
for_form raw stays up empty percent dot dots other =
    cond ((length raw == 0) || is_text raw (codes ".")) stays
    (cond (is_text raw (codes "..")) up
    (cond (is_text raw (codes "%")) empty
    (cond (is_text raw (92 ∷ codes "%")) percent
    (cond (is_text raw (92 ∷ codes ".")) dot
    (cond (is_text raw (92 ∷ codes "..")) dots other)))))

-- what is told of each form of a raw part, by what is told of its reading
pub by_form : {A : Type 0} (tell : Result (Option Move) ℕ → A) (raw : List ℕ)
    → tell (read_part raw)
    ≡ for_form raw (tell (Ok (Some Stays))) (tell (Ok (Some GoesUp))) (tell (Ok (Some (Adds []))))
    (tell (Ok (Some (Adds (codes "%"))))) (tell (Ok (Some (Adds (codes "."))))) (tell (Ok (Some (Adds (codes "..")))))
    (tell (result_map_both (λ text. option_map Adds (part_of_text text)) (λ at. at) (read_letters raw)))
by_form {A = A} tell raw =
    of ((length raw == 0) || is_text raw (codes ".")) _ _ _ (of (is_text raw (codes "..")) _ _ _ (of (is_text raw (codes "%")) _ _ _ (of (is_text raw (92 ∷ codes "%")) _ _ _ (of (is_text raw (92 ∷ codes ".")) _ _ _ (of (is_text raw (92 ∷ codes "..")) _ _ _ refl)))))
  where
    of : (t : Bool) (x y : Result (Option Move) ℕ) (z : A) → tell y ≡ z → tell (cond t x y) ≡ cond t (tell x) z
    of true x y z e = refl
    of false x y z e = e

-- what a raw part means, where its form is known
pub meaning-by_form : (raw : List ℕ)
    → meaning raw ≡ for_form raw (Some Stays) (Some GoesUp) (Some (Adds [])) (Some (Adds (codes "%")))
    (Some (Adds (codes "."))) (Some (Adds (codes ".."))) (option_map Adds (option_and_then part_of_text (unescaped raw)))
meaning-by_form raw =
    by_form (λ r. option_flatten (result_ok r)) raw
    ∙ ap (for_form raw (Some Stays) (Some GoesUp) (Some (Adds [])) (Some (Adds (codes "%"))) (Some (Adds (codes "."))) (Some (Adds (codes ".."))))
    (of_text (read_letters raw))
  where
    of_text : (letters : Result Part ℕ)
        → option_flatten (result_ok (result_map_both (λ text. option_map Adds (part_of_text text)) (λ at. at) letters))
        ≡ option_map Adds (option_and_then part_of_text (result_ok letters))
    of_text (Ok text) = refl
    of_text (Err at) = refl
