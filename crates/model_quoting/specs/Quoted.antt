-- How a text and a name are shown on one line. (This project's own.)
use Rattle.std.specs.Prelude.{ℕ, ◌+◌, ◌/◌, ◌%◌, nat_lt, nat_le, Bool, not, ◌&&◌, ◌||◌, ◌==◌, if◌then◌else◌, List, [], ◌∷◌, ◌++◌}
use Rattle.std.specs.List.{flat_map, list_all}
use Rattle.model_names.specs.Name.{Name}
use Rattle.model_names.specs.Spelling.{spelling}

-- a lower-case hexadecimal digit
abbrev pub hex_digit : ℕ → ℕ
hex_digit n = if nat_lt n 10 then 48 + n else 87 + n

-- a byte inside quotes: `\\`, `\"`, `\n`, `\r`, `\t`, `\x` and two digits for any other control byte, and else itself
abbrev pub quoted_byte : ℕ → List ℕ
quoted_byte b =
    if b == 92 then 92 ∷ 92 ∷ [] else
    (if b == 34 then 92 ∷ 34 ∷ [] else
    (if b == 10 then 92 ∷ 110 ∷ [] else
    (if b == 13 then 92 ∷ 114 ∷ [] else
    (if b == 9 then 92 ∷ 116 ∷ [] else
    (if nat_lt b 32 || (b == 127) then 92 ∷ 120 ∷ hex_digit (b / 16) ∷ hex_digit (b % 16) ∷ [] else b ∷ [])))))

-- a text in quotes
abbrev pub quoted : List ℕ → List ℕ
quoted text = 34 ∷ (flat_map quoted_byte text ++ 34 ∷ [])

-- a byte that may be shown as it is outside quotes: it is above the blank and neither a quote nor the delete byte
abbrev pub is_plain_byte : ℕ → Bool
is_plain_byte b = nat_lt 32 b && not (b == 127) && not (b == 34)

-- a text that needs no quotes is shown as it is, any other quoted
abbrev pub shown_text : List ℕ → List ℕ
shown_text text = if list_all is_plain_byte text then text else quoted text

-- a name is shown by its canonical spelling
abbrev pub shown : Name → List ℕ
shown name = shown_text (spelling name)

-- a byte that may stand inside a line: it is no control byte, so no line feed
abbrev pub is_line_byte : ℕ → Bool
is_line_byte b = nat_le 32 b && not (b == 127)
