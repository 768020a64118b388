-- Bytes in quotes, each of them written as it is or by an escape. (This project's own.)
use Rattle.std.specs.Prelude.{◌≡◌, ◌⊎◌, ℕ, ◌+◌, ◌-◌, ◌*◌, ◌<◌, ◌==◌, nat_le, nat_lt, Bool, not, ◌&&◌, if◌then◌else◌, List, [], ◌∷◌, ◌++◌, Option, Some, None, option_and_then}
use Rattle.std.specs.Option.{option_map}
use Rattle.model_quoting.specs.Quoted.{is_line_byte, quoted_byte}

-- the value of a hexadecimal digit of either case
abbrev pub hex_value : ℕ → Option ℕ
hex_value b =
    if nat_le 48 b && nat_le b 57 then Some (b - 48) else
    (if nat_le 97 b && nat_le b 102 then Some (b - 87) else
    (if nat_le 65 b && nat_le b 70 then Some (b - 55) else None))

-- an ASCII byte as `\x` and two hexadecimal digits
pub record IsHexadecimal (text : List ℕ) (byte : ℕ) : Type 0 where
  pub first : ℕ
  pub second : ℕ
  pub high : ℕ
  pub low : ℕ
  pub text_is : text ≡ 92 ∷ 120 ∷ first ∷ second ∷ []
  pub high_is : hex_value first ≡ Some high
  pub low_is : hex_value second ≡ Some low
  pub byte_is : byte ≡ 16 * high + low
  pub ascii : byte < 128

-- a byte is written as where a text is quoted, or by two hexadecimal digits
abbrev pub IsWritten : List ℕ → ℕ → Type 0
IsWritten text byte = (text ≡ quoted_byte byte) ⊎ IsHexadecimal text byte

-- bytes in quotes stand for a text: they write its bytes one after the other
abbrev pub StandsFor : List ℕ → List ℕ → Type 0
StandsFor inside [] = inside ≡ []
StandsFor inside (byte ∷ text) =
    (first rest : List ℕ) × (inside ≡ first ++ rest) × IsWritten first byte × StandsFor rest text

-- ---- the same read from the front, for the code

-- the byte of two hexadecimal digits, where it's ASCII
abbrev pub byte_of_digits : ℕ → ℕ → Option ℕ
byte_of_digits first second =
    option_and_then (λ high. option_and_then (λ low. if nat_lt (16 * high + low) 128 then Some (16 * high + low) else None) (hex_value second)) (hex_value first)

-- the byte of two digits at the front, and what stands behind them
abbrev pub hexadecimal_at : List ℕ → Option (ℕ × List ℕ)
hexadecimal_at [] = None
hexadecimal_at (first ∷ []) = None
hexadecimal_at (first ∷ second ∷ bytes) = option_map (λ byte. (byte, bytes)) (byte_of_digits first second)

-- the byte of a letter behind a backslash
abbrev pub short_escape : ℕ → Option ℕ
short_escape b =
    if b == 92 then Some 92 else
    (if b == 34 then Some 34 else
    (if b == 110 then Some 10 else
    (if b == 114 then Some 13 else
    (if b == 116 then Some 9 else None))))

-- the byte that an escape at the front stands for, behind its backslash
abbrev pub escaped_at : List ℕ → Option (ℕ × List ℕ)
escaped_at [] = None
escaped_at (b ∷ bytes) = if b == 120 then hexadecimal_at bytes else option_map (λ byte. (byte, bytes)) (short_escape b)

-- a byte that stands as it is in quotes, where it's no backslash
abbrev pub is_plain : ℕ → Bool
is_plain b = is_line_byte b && not (b == 34)

-- the first byte that bytes in quotes write, and what stands behind it
abbrev pub written_at : List ℕ → Option (ℕ × List ℕ)
written_at [] = None
written_at (b ∷ bytes) = if b == 92 then escaped_at bytes else (if is_plain b then Some (b, bytes) else None)
