-- Signs that are spelled are read back, and stand for the bytes that they were made of.
use Rattle.std.specs.Prelude.{◌≡◌, ◌≢◌, ℕ, Bool, true, false, ◌||◌, ◌==◌, List, [], ◌∷◌, map, Some, option_and_then}
use Rattle.std.proofs.Common.{cond, refl, sym, ap, subst, ◌∙◌, inl, inr}
use Rattle.std.specs.List.{AllByRecursion, flat_map}
use Rattle.std.specs.Option.{option_map}
use Rattle.std.proofs.lemmas.Bool.{ne_eqb, eq-eqb, cases_eq, cond-false}
use Rattle.model_ini.specs.declared.signs.Sign.{Sign}
use Rattle.model_ini.specs.declared.signs.Sign.TheVariants.{Plain, Covered}
use Rattle.model_ini.specs.Signs.{signs, spelled_sign, byte_of, text_of}
use Rattle.model_ini.specs.Text.{value_sign, name_sign, cover_blank, cover_mark, at_first, at_last}

-- what holds where a byte is another and where it isn't, holds of the test
pub by_byte : (P : Bool → Type 0) (b c : ℕ) → (b ≡ c → P true) → (b ≢ c → P false) → P (b == c)
by_byte P b c here there =
    elim (cases_eq b c) [ inl e ↦ subst P (sym (eq-eqb b c e)) (here e) | inr n ↦ subst P (sym (ne_eqb b c n)) (there n) ]

-- a plain sign isn't a backslash
abbrev pub IsBare : Sign → Type 0
IsBare (Plain b) = b ≢ 92
IsBare (Covered b) = Unit {0}

pub signs-plain : (b : ℕ) (bytes : List ℕ) → b ≢ 92 → signs (b ∷ bytes) ≡ Plain b ∷ signs bytes
signs-plain b [] h = refl
signs-plain b (c ∷ bytes) h = cond-false (b == 92) _ _ (ne_eqb b 92 h)

pub signs-spelled : (ss : List Sign) → AllByRecursion IsBare ss → signs (flat_map spelled_sign ss) ≡ ss
signs-spelled [] h = refl
signs-spelled (Plain b ∷ ss) h =
    signs-plain b (flat_map spelled_sign ss) h.0 ∙ ap (λ rest. Plain b ∷ rest) (signs-spelled ss h.1)
signs-spelled (Covered b ∷ ss) h = ap (λ rest. Covered b ∷ rest) (signs-spelled ss h.1)

-- ---- what signs stand for

byte_of-plain : (b : ℕ) → b ≢ 92 → byte_of (Plain b) ≡ Some b
byte_of-plain b h = cond-false (b == 92) _ _ (ne_eqb b 92 h)

pub byte_of-value_sign : (b : ℕ) → byte_of (value_sign b) ≡ Some b
byte_of-value_sign b =
    by_byte (λ t. byte_of (cond t (Covered 92) (cond (b == 10) (Covered 110) (cond (b == 13) (Covered 114) (cond (b == 9) (Covered 116) (Plain b))))) ≡ Some b) b 92 (λ e. ap (λ c. Some c) (sym e)) (λ no_backslash.
    by_byte (λ t. byte_of (cond t (Covered 110) (cond (b == 13) (Covered 114) (cond (b == 9) (Covered 116) (Plain b)))) ≡ Some b) b 10 (λ e. ap (λ c. Some c) (sym e)) (λ _.
    by_byte (λ t. byte_of (cond t (Covered 114) (cond (b == 9) (Covered 116) (Plain b))) ≡ Some b) b 13 (λ e. ap (λ c. Some c) (sym e)) (λ _.
    by_byte (λ t. byte_of (cond t (Covered 116) (Plain b)) ≡ Some b) b 9 (λ e. ap (λ c. Some c) (sym e)) (λ _. byte_of-plain b no_backslash))))

pub byte_of-name_sign : (b : ℕ) → byte_of (name_sign b) ≡ Some b
byte_of-name_sign b =
    by_byte (λ t. byte_of (cond t (Covered 61) (value_sign b)) ≡ Some b) b 61 (λ e. ap (λ c. Some c) (sym e)) (λ _. byte_of-value_sign b)

pub byte_of-cover_blank : (s : Sign) → byte_of (cover_blank s) ≡ byte_of s
byte_of-cover_blank (Plain b) =
    by_byte (λ t. byte_of (cond t (Covered 115) (Plain b)) ≡ byte_of (Plain b)) b 32 (λ e. sym (ap (λ c. byte_of (Plain c)) e)) (λ _. refl)
byte_of-cover_blank (Covered b) = refl

pub byte_of-cover_mark : (s : Sign) → byte_of (cover_mark s) ≡ byte_of s
byte_of-cover_mark (Plain b) =
    by_byte (λ t. byte_of (cond (t || (b == 59) || (b == 91)) (Covered b) (Plain b)) ≡ byte_of (Plain b)) b 35 (λ e. same b 35 e refl) (λ _.
    by_byte (λ t. byte_of (cond (t || (b == 91)) (Covered b) (Plain b)) ≡ byte_of (Plain b)) b 59 (λ e. same b 59 e refl) (λ _.
    by_byte (λ t. byte_of (cond t (Covered b) (Plain b)) ≡ byte_of (Plain b)) b 91 (λ e. same b 91 e refl) (λ _. refl)))
  where
    same : (c d : ℕ) → c ≡ d → byte_of (Covered d) ≡ byte_of (Plain d) → byte_of (Covered c) ≡ byte_of (Plain c)
    same c d e h = subst (λ x. byte_of (Covered x) ≡ byte_of (Plain x)) (sym e) h
byte_of-cover_mark (Covered b) = refl

pub text_of-cons : (s t : Sign) (ss : List Sign) → byte_of s ≡ byte_of t → text_of (s ∷ ss) ≡ text_of (t ∷ ss)
text_of-cons s t ss e = ap (option_and_then (λ b. option_map (λ text. b ∷ text) (text_of ss))) e

pub text_of-map : (f : ℕ → Sign) → ((b : ℕ) → byte_of (f b) ≡ Some b) → (text : List ℕ)
    → text_of (map f text) ≡ Some text
text_of-map f is [] = refl
text_of-map f is (b ∷ text) =
    ap (option_and_then (λ c. option_map (λ rest. c ∷ rest) (text_of (map f text)))) (is b)
    ∙ ap (option_map (λ rest. b ∷ rest)) (text_of-map f is text)

pub text_of-at_first : (f : Sign → Sign) → ((s : Sign) → byte_of (f s) ≡ byte_of s) → (ss : List Sign)
    → text_of (at_first f ss) ≡ text_of ss
text_of-at_first f is [] = refl
text_of-at_first f is (s ∷ ss) = text_of-cons (f s) s ss (is s)

pub text_of-at_last : (f : Sign → Sign) → ((s : Sign) → byte_of (f s) ≡ byte_of s) → (ss : List Sign)
    → text_of (at_last f ss) ≡ text_of ss
text_of-at_last f is [] = refl
text_of-at_last f is (s ∷ []) = text_of-cons (f s) s [] (is s)
text_of-at_last f is (s ∷ t ∷ ss) =
    ap (λ rest. option_and_then (λ b. option_map (λ text. b ∷ text) rest) (byte_of s)) (text_of-at_last f is (t ∷ ss))
