-- The line of a name and a value is UTF-8 where both are.
use Rattle.std.specs.Prelude.{◌≡◌, ℕ, ◌<◌, true, ◌||◌, ◌==◌, List, [], ◌∷◌, ◌++◌, Option, None, Some, codes}
use Rattle.std.proofs.Common.{sym, ap, subst, ◌∙◌, append_assoc, lit<, arith, inl, inr}
use Rattle.std.specs.List.{flat_map}
use Rattle.std.specs.Str.{IsUtf8}
use Rattle.std.proofs.lemmas.Bool.{eqb-true, or_cases}
use Rattle.std.proofs.lemmas.Str.{IsUtf8-append}
use Rattle.general_words.proofs.Lists.{some_is}
use Rattle.general_words.proofs.Tests.{cond_some}
use Rattle.model_names.proofs.PartLemmas.{IsUtf8-cons}
use Rattle.model_names.proofs.RefusesLemmas.{from_map, from_and_then, branch_taken}
use Rattle.model_lines.proofs.Utf8Lemmas.{utf8-before, utf8-behind}
use Rattle.model_ini.specs.declared.signs.Sign.{Sign}
use Rattle.model_ini.specs.declared.signs.Sign.TheVariants.{Plain, Covered}
use Rattle.model_ini.specs.Signs.{spelled_sign, escape, byte_of, text_of}
use Rattle.model_ini.specs.Text.{value_signs, name_signs, line_of}
use Rattle.model_ini.proofs.WrittenLines.{text_of-value_signs, text_of-name_signs}

-- an escape's letter and what it stands for are ASCII
abbrev AreAscii : ℕ → ℕ → Type 0
AreAscii c e = (c < 128) × (e < 128)

by_letter : (c letter byte e : ℕ) → letter < 128 → byte < 128 → (c == letter) ≡ true
    → ◌≡◌ {A = Option ℕ} (Some byte) (Some e) → AreAscii c e
by_letter c letter byte e p q is same =
    let at : c ≡ letter = eqb-true c letter is in
    let stands : byte ≡ e = some_is byte e same in
    (omega arith, omega arith)

by_mark : (c mark e : ℕ) → mark < 128 → (c == mark) ≡ true → ◌≡◌ {A = Option ℕ} (Some c) (Some e) → AreAscii c e
by_mark c mark e p is same =
    let at : c ≡ mark = eqb-true c mark is in
    let stands : c ≡ e = some_is c e same in
    (omega arith, omega arith)

marks : (c e : ℕ) → ((c == 61) || (c == 35) || (c == 59) || (c == 91)) ≡ true → ◌≡◌ {A = Option ℕ} (Some c) (Some e)
    → AreAscii c e
marks c e is same =
    elim (or_cases _ (c == 91) is) [
      | inl first ↦ elim (or_cases _ (c == 59) first) [
        | inl second ↦ elim (or_cases (c == 61) (c == 35) second) [ inl t ↦ by_mark c 61 e (lit< tt) t same | inr t ↦ by_mark c 35 e (lit< tt) t same ]
        | inr t ↦ by_mark c 59 e (lit< tt) t same
      ]
      | inr t ↦ by_mark c 91 e (lit< tt) t same
    ]

escape-ascii : (c e : ℕ) → escape c ≡ Some e → AreAscii c e
escape-ascii c e h =
    branch_taken (c == 92) _ _ (Some e) h (λ is same. by_letter c 92 92 e (lit< tt) (lit< tt) is same) (λ h.
    branch_taken (c == 110) _ _ (Some e) h (λ is same. by_letter c 110 10 e (lit< tt) (lit< tt) is same) (λ h.
    branch_taken (c == 114) _ _ (Some e) h (λ is same. by_letter c 114 13 e (lit< tt) (lit< tt) is same) (λ h.
    branch_taken (c == 116) _ _ (Some e) h (λ is same. by_letter c 116 9 e (lit< tt) (lit< tt) is same) (λ h.
    branch_taken (c == 115) _ _ (Some e) h (λ is same. by_letter c 115 32 e (lit< tt) (lit< tt) is same) (λ h.
    let mark = cond_some ((c == 61) || (c == 35) || (c == 59) || (c == 91)) (Some c) e h in marks c e mark.0 mark.1)))))

-- what a sign that is not the last stands for, and what is left
split : (s : Sign) (ss : List Sign) (text : List ℕ) → text_of (s ∷ ss) ≡ Some text
    → (b : ℕ) × (byte_of s ≡ Some b) × (rest : List ℕ) × (text_of ss ≡ Some rest) × (b ∷ rest ≡ text)
split s ss text h =
    let first = from_and_then _ (byte_of s) text h in
    let rest = from_map (λ t. first.0 ∷ t) (text_of ss) text first.2 in
    (first.0, first.1, rest.0, rest.1, rest.2)

-- a bare sign stands for its own byte
bare : (b c : ℕ) → byte_of (Plain b) ≡ Some c → c ≡ b
bare b c h = branch_taken (b == 92) None (Some b) (Some c) h (λ is none. absurd cc) (λ same. sym (some_is b c same))

-- signs are spelled in UTF-8 where the text that they stand for is, behind any bytes: those carry the bytes of a letter
-- that is spelled half
utf8-signs : (ss : List Sign) (front text : List ℕ) → text_of ss ≡ Some text → IsUtf8 (front ++ text)
    → IsUtf8 (front ++ flat_map spelled_sign ss)
utf8-signs [] front text h utf8 =
    let none : [] ≡ text = some_is [] text h in subst (λ (t : List ℕ). IsUtf8 (front ++ t)) (sym none) utf8
utf8-signs (Plain b ∷ ss) front text h utf8 =
    let at = split (Plain b) ss text h in
    let byte : at.0 ≡ b = bare b at.0 at.1 in
    let whole : front ++ text ≡ (front ++ b ∷ []) ++ at.2 = ap (λ t. front ++ t) (sym at.4) ∙ ap (λ c. front ++ c ∷ at.2) byte ∙ sym (append_assoc front (b ∷ []) at.2) in
    subst (λ (t : List ℕ). IsUtf8 t) (append_assoc front (b ∷ []) (flat_map spelled_sign ss))
    (utf8-signs ss (front ++ b ∷ []) at.2 at.3 (subst (λ (t : List ℕ). IsUtf8 t) whole utf8))
utf8-signs (Covered c ∷ ss) front text h utf8 =
    let at = split (Covered c) ss text h in
    let ascii = escape-ascii c at.0 at.1 in
    let cut : IsUtf8 (front ++ at.0 ∷ at.2) = subst (λ (t : List ℕ). IsUtf8 (front ++ t)) (sym at.4) utf8 in
    let rest = utf8-signs ss [] at.2 at.3 (utf8-behind at.0 front at.2 ascii.1 cut) in
    IsUtf8-append front (92 ∷ c ∷ flat_map spelled_sign ss) (utf8-before at.0 front at.2 ascii.1 cut) (IsUtf8-cons 92 (c ∷ flat_map spelled_sign ss) (lit< tt) (IsUtf8-cons c (flat_map spelled_sign ss) ascii.0 rest))

pub line_of-utf8 : (name value : List ℕ) → IsUtf8 name → IsUtf8 value → IsUtf8 (line_of name value)
line_of-utf8 name value name_utf8 value_utf8 =
    let left = utf8-signs (name_signs name) [] name (text_of-name_signs name) name_utf8 in
    let right = utf8-signs (value_signs value) [] value (text_of-value_signs value) value_utf8 in
    IsUtf8-append (flat_map spelled_sign (name_signs name)) (codes " = " ++ flat_map spelled_sign (value_signs value)) left
    (IsUtf8-cons 32 (61 ∷ 32 ∷ flat_map spelled_sign (value_signs value)) (lit< tt) (IsUtf8-cons 61 (32 ∷ flat_map spelled_sign (value_signs value)) (lit< tt) (IsUtf8-cons 32 (flat_map spelled_sign (value_signs value)) (lit< tt) right)))
