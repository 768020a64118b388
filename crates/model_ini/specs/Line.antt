-- What one line of simpleini says. (After Elektra's simpleini plugin, in this profile.)
use Rattle.std.specs.Prelude.{ℕ, ◌||◌, ◌==◌, if◌then◌else◌, List, [], ◌∷◌, Option, Some, None}
use Rattle.model_lines.specs.Lines.{without_return}
use Rattle.model_ini.specs.declared.signs.Sign.{Sign}
use Rattle.model_ini.specs.declared.signs.Sign.TheVariants.{Plain, Covered}
use Rattle.model_ini.specs.Signs.{signs, text_of, is_blank, without_front, trimmed, cut_at_equals}

-- a line is skipped, is an entry with the text of a name and a value, or can't be read
pub data Meaning : Type 0 where
  Skipped : Meaning
  Pair : List ℕ → List ℕ → Meaning
  Unreadable : Meaning

-- an entry where both sides stand for a text
abbrev pub pair_of : Option (List ℕ) → Option (List ℕ) → Meaning
pair_of None value = Unreadable
pair_of (Some name) None = Unreadable
pair_of (Some name) (Some value) = Pair name value

-- what the sides of the first equals sign say, each without the blanks at its ends
abbrev pub meaning_of_sides : Option (List Sign × List Sign) → Meaning
meaning_of_sides None = Unreadable
meaning_of_sides (Some sides) = pair_of (text_of (trimmed sides.0)) (text_of (trimmed sides.1))

-- what a line says behind the blanks at its front: one without signs, and one that begins with `#` or `;`, is skipped;
-- one that begins with `[` can't be read
abbrev pub meaning_behind_blanks : List Sign → Meaning
meaning_behind_blanks [] = Skipped
meaning_behind_blanks (Covered b ∷ rest) = meaning_of_sides (cut_at_equals (Covered b ∷ rest))
meaning_behind_blanks (Plain b ∷ rest) =
    if (b == 35) || (b == 59) then Skipped else (if b == 91 then Unreadable else meaning_of_sides (cut_at_equals (Plain b ∷ rest)))

-- what a line says
abbrev pub meaning : List ℕ → Meaning
meaning line = meaning_behind_blanks (without_front is_blank (signs (without_return line)))
