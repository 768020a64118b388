-- What trimming leaves of signs whose ends aren't blank, and where they are cut.
use Rattle.std.specs.Prelude.{◌≡◌, Bool, true, false, ◌&&◌, ◌==◌, List, [], ◌∷◌, ◌++◌, length, Some}
use Rattle.std.proofs.Common.{cond, refl, ap, ◌∙◌, arith}
use Rattle.std.specs.List.{AllByRecursion}
use Rattle.std.specs.Option.{option_map}
use Rattle.std.proofs.lemmas.Bool.{ne_eqb, cond-true, cond-false, and_left, and_right}
use Rattle.model_ini.specs.declared.signs.Sign.{Sign}
use Rattle.model_ini.specs.declared.signs.Sign.TheVariants.{Plain}
use Rattle.model_ini.specs.Signs.{is_blank, is_equals, without_front, without_back, trimmed, cut_at_equals}
use Rattle.model_ini.specs.Text.{at_first, at_last}

-- the first element fails a test, if there is one; or the last
abbrev pub FirstFails : {A : Type 0} → (A → Bool) → List A → Type 0
FirstFails passes [] = Unit {0}
FirstFails passes (x ∷ xs) = passes x ≡ false

abbrev pub LastFails : {A : Type 0} → (A → Bool) → List A → Type 0
LastFails passes [] = Unit {0}
LastFails passes (x ∷ []) = passes x ≡ false
LastFails passes (x ∷ y ∷ xs) = LastFails passes (y ∷ xs)

pub without_front-same : {A : Type 0} (passes : A → Bool) (xs : List A) → FirstFails passes xs
    → without_front passes xs ≡ xs
without_front-same passes [] h = refl
without_front-same passes (x ∷ xs) h = cond-false (passes x) _ _ h

without_back-filled : {A : Type 0} (passes : A → Bool) (x y : A) (ys xs : List A) → without_back passes xs ≡ y ∷ ys
    → without_back passes (x ∷ xs) ≡ x ∷ y ∷ ys
without_back-filled passes x y ys xs e =
    ap (λ rest. cond (passes x && (length rest == 0)) [] (x ∷ rest)) e
    ∙ cond-false (passes x && (length (y ∷ ys) == 0)) [] (x ∷ y ∷ ys) (and_right (passes x) (length (y ∷ ys) == 0) (ne_eqb (length (y ∷ ys)) 0 (λ (e : length (y ∷ ys) ≡ 0). absurd (omega arith))))

pub without_back-same : {A : Type 0} (passes : A → Bool) (xs : List A) → LastFails passes xs
    → without_back passes xs ≡ xs
without_back-same passes [] h = refl
without_back-same passes (x ∷ []) h = cond-false (passes x && true) _ _ (and_left (passes x) true h)
without_back-same passes (x ∷ y ∷ xs) h =
    without_back-filled passes x y xs (y ∷ xs) (without_back-same passes (y ∷ xs) h)

-- a last element that passes is dropped
pub without_back-last : {A : Type 0} (passes : A → Bool) (xs : List A) (last : A) → passes last ≡ true
    → without_back passes (xs ++ last ∷ []) ≡ without_back passes xs
without_back-last passes [] last h = cond-true (passes last && true) _ _ (and_true (passes last) h)
  where
    and_true : (t : Bool) → t ≡ true → (t && true) ≡ true
    and_true t e = ap (λ u. u && true) e
without_back-last passes (x ∷ xs) last h =
    ap (λ rest. cond (passes x && (length rest == 0)) [] (x ∷ rest)) (without_back-last passes xs last h)

pub FirstFails-at_first : {A : Type 0} (passes : A → Bool) (P : A → Type 0) (f : A → A)
    → ((x : A) → P x → passes (f x) ≡ false) → (xs : List A) → AllByRecursion P xs → FirstFails passes (at_first f xs)
FirstFails-at_first passes P f fails [] h = tt
FirstFails-at_first passes P f fails (x ∷ xs) h = fails x h.0

pub LastFails-at_last : {A : Type 0} (passes : A → Bool) (P : A → Type 0) (f : A → A)
    → ((x : A) → P x → passes (f x) ≡ false) → (xs : List A) → AllByRecursion P xs → LastFails passes (at_last f xs)
LastFails-at_last passes P f fails [] h = tt
LastFails-at_last passes P f fails (x ∷ []) h = fails x h.0
LastFails-at_last passes P f fails (x ∷ y ∷ []) h = fails y h.1.0
LastFails-at_last passes P f fails (x ∷ y ∷ z ∷ xs) h = LastFails-at_last passes P f fails (y ∷ z ∷ xs) h.1

pub LastFails-at_first : {A : Type 0} (passes : A → Bool) (f : A → A)
    → ((x : A) → passes x ≡ false → passes (f x) ≡ false) → (xs : List A) → LastFails passes xs
    → LastFails passes (at_first f xs)
LastFails-at_first passes f fails [] h = tt
LastFails-at_first passes f fails (x ∷ []) h = fails x h
LastFails-at_first passes f fails (x ∷ y ∷ xs) h = h

-- signs whose ends aren't blank are trimmed to themselves, with one blank before or behind them too
pub trimmed-same : (side : List Sign) → FirstFails is_blank side → LastFails is_blank side → trimmed side ≡ side
trimmed-same side first last =
    ap (without_back is_blank) (without_front-same is_blank side first) ∙ without_back-same is_blank side last

pub trimmed-blank_behind : (s : Sign) (side : List Sign) → FirstFails is_blank (s ∷ side)
    → LastFails is_blank (s ∷ side) → trimmed ((s ∷ side) ++ Plain 32 ∷ []) ≡ s ∷ side
trimmed-blank_behind s side first last =
    ap (without_back is_blank) (without_front-same is_blank ((s ∷ side) ++ Plain 32 ∷ []) first)
    ∙ without_back-last is_blank (s ∷ side) (Plain 32) refl ∙ without_back-same is_blank (s ∷ side) last

-- signs without an equals sign are cut at the first behind them
pub cut_at_equals-at : (front rest : List Sign) → AllByRecursion (λ s. is_equals s ≡ false) front
    → cut_at_equals (front ++ Plain 61 ∷ rest) ≡ Some (front, rest)
cut_at_equals-at [] rest h = refl
cut_at_equals-at (s ∷ front) rest h =
    cond-false (is_equals s) _ _ h.0
    ∙ ap (option_map (λ (sides : List Sign × List Sign). (s ∷ sides.0, sides.1))) (cut_at_equals-at front rest h.1)
