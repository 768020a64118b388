-- The signs of a line of simpleini: a byte as it stands, or a byte that a backslash covers. A line is split into signs
-- before anything else is asked of it, so that what a backslash covers is neither a separator, nor a mark, nor a blank.
-- (After Elektra's simpleini plugin; the escapes are this project's own.)
use Rattle.std.specs.Prelude.{ℕ, Bool, false, ◌&&◌, ◌||◌, ◌==◌, if◌then◌else◌, List, [], ◌∷◌, length, Option, Some, None, option_and_then}
use Rattle.std.specs.Option.{option_map}
use Rattle.model_ini.specs.declared.signs.Sign.{Sign}
use Rattle.model_ini.specs.declared.signs.Sign.TheVariants.{Plain, Covered}

-- the signs of some bytes: from the left, a backslash covers the byte behind it; one at the end stands alone
abbrev pub signs : List ℕ → List Sign
signs [] = []
signs (b ∷ []) = Plain b ∷ []
signs (b ∷ c ∷ bytes) = if b == 92 then Covered c ∷ signs bytes else Plain b ∷ signs (c ∷ bytes)

-- the bytes of a sign
abbrev pub spelled_sign : Sign → List ℕ
spelled_sign (Plain b) = b ∷ []
spelled_sign (Covered b) = 92 ∷ b ∷ []

-- what a covered byte stands for: `\` for itself, `n`, `r`, `t` and `s` for a line feed, a carriage return, a tab and a
-- blank, and `=`, `#`, `;` and `[` for themselves; any other stands for nothing
abbrev pub escape : ℕ → Option ℕ
escape b =
    if b == 92 then Some 92 else
    (if b == 110 then Some 10 else
    (if b == 114 then Some 13 else
    (if b == 116 then Some 9 else
    (if b == 115 then Some 32 else
    (if (b == 61) || (b == 35) || (b == 59) || (b == 91) then Some b else None)))))

-- the byte that a sign stands for; a backslash that covers nothing stands for none
abbrev pub byte_of : Sign → Option ℕ
byte_of (Plain b) = if b == 92 then None else Some b
byte_of (Covered b) = escape b

-- the text that signs stand for, where each stands for a byte
abbrev pub text_of : List Sign → Option (List ℕ)
text_of [] = Some []
text_of (sign ∷ rest) = option_and_then (λ b. option_map (λ text. b ∷ text) (text_of rest)) (byte_of sign)

-- a blank or a tab that stands as it is
abbrev pub is_blank : Sign → Bool
is_blank (Plain b) = (b == 32) || (b == 9)
is_blank (Covered b) = false

-- an equals sign that stands as it is
abbrev pub is_equals : Sign → Bool
is_equals (Plain b) = b == 61
is_equals (Covered b) = false

-- what is left when the first elements that pass a test are dropped, or the last ones
abbrev pub without_front : {A : Type 0} → (A → Bool) → List A → List A
without_front passes [] = []
without_front passes (x ∷ xs) = if passes x then without_front passes xs else x ∷ xs

abbrev pub without_back : {A : Type 0} → (A → Bool) → List A → List A
without_back passes [] = []
without_back passes (x ∷ xs) =
    let rest = without_back passes xs in if passes x && (length rest == 0) then [] else x ∷ rest

-- signs without the blanks and tabs at both ends
abbrev pub trimmed : List Sign → List Sign
trimmed side = without_back is_blank (without_front is_blank side)

-- signs cut at their first equals sign, if there is one
abbrev pub cut_at_equals : List Sign → Option (List Sign × List Sign)
cut_at_equals [] = None
cut_at_equals (sign ∷ rest) =
    if is_equals sign then Some ([], rest) else option_map (λ sides. (sign ∷ sides.0, sides.1)) (cut_at_equals rest)
