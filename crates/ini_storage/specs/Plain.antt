-- A line without a backslash: each of its bytes is a sign that stands as it is. (This project's own.)
use Rattle.std.specs.Prelude.{ℕ, Bool, ◌||◌, ◌==◌, if◌then◌else◌, List, [], ◌∷◌, Option, Some, None}
use Rattle.std.specs.List.{list_any}
use Rattle.std.specs.Option.{option_map}
use Rattle.model_ini.specs.Line.{Meaning, Skipped, Pair, Unreadable}
use Rattle.model_ini.specs.Signs.{without_front, without_back}
use Rattle.ini_storage.specs.declared.plain.Plainly.{Plainly}
use Rattle.ini_storage.specs.declared.plain.Plainly.TheVariants as plainly

abbrev pub has_backslash : List ℕ → Bool
has_backslash bytes = list_any (λ b. b == 92) bytes

abbrev pub is_blank_byte : ℕ → Bool
is_blank_byte b = (b == 32) || (b == 9)

-- bytes without the blanks and tabs at both ends
abbrev pub trimmed_bytes : List ℕ → List ℕ
trimmed_bytes side = without_back is_blank_byte (without_front is_blank_byte side)

-- bytes cut at their first equals sign, if there is one
abbrev pub cut_at_byte : List ℕ → Option (List ℕ × List ℕ)
cut_at_byte [] = None
cut_at_byte (b ∷ rest) =
    if b == 61 then Some ([], rest) else option_map (λ sides. (b ∷ sides.0, sides.1)) (cut_at_byte rest)

-- a byte that is covered at some place of a line, on one side or both
abbrev pub may_be_covered : ℕ → Bool
may_be_covered b =
    (b == 92) || ((b == 10) || ((b == 13) || ((b == 9) || ((b == 61) || ((b == 32) || ((b == 35) || (b == 59) || (b == 91)))))))

-- what the code says of such a line, as the definitions have it
abbrev pub plain_view : Plainly → Meaning
plain_view plainly.Skipped = Skipped
plain_view (plainly.Pair name value) = Pair name.now value.now
plain_view plainly.Unreadable = Unreadable
