-- The one text of a map in simpleini. (After Elektra's simpleini plugin; the escapes are this project's own.)
use Rattle.std.specs.Prelude.{ℕ, true, ◌||◌, ◌==◌, if◌then◌else◌, List, [], ◌∷◌, ◌++◌, map, codes}
use Rattle.std.specs.FinMap as finite
use Rattle.std.specs.List.{flat_map}
use Rattle.model_maps.specs.KeyMap.{KeyMap}
use Rattle.model_names.specs.Spelling.{relative_text}
use Rattle.model_lines.specs.Lines.{ended}
use Rattle.model_formats.specs.Format.{Format}
use Rattle.model_ini.specs.declared.signs.Sign.{Sign}
use Rattle.model_ini.specs.declared.signs.Sign.TheVariants.{Plain, Covered}
use Rattle.model_ini.specs.Signs.{spelled_sign}
use Rattle.model_ini.specs.Ini.{Reads, IsBadAt, IsIniKey}

-- how a byte is written, wherever it stands: a backslash, a line feed, a carriage return and a tab by their escapes
abbrev pub value_sign : ℕ → Sign
value_sign b =
    if b == 92 then Covered 92 else
    (if b == 10 then Covered 110 else
    (if b == 13 then Covered 114 else
    (if b == 9 then Covered 116 else Plain b)))

-- in a name an equals sign too
abbrev pub name_sign : ℕ → Sign
name_sign b = if b == 61 then Covered 61 else value_sign b

-- at both ends a blank is written by its escape
abbrev pub cover_blank : Sign → Sign
cover_blank (Plain b) = if b == 32 then Covered 115 else Plain b
cover_blank (Covered b) = Covered b

-- and first in a name a mark that would make the line something else: `#`, `;` or `[`
abbrev pub cover_mark : Sign → Sign
cover_mark (Plain b) = if (b == 35) || (b == 59) || (b == 91) then Covered b else Plain b
cover_mark (Covered b) = Covered b

-- a change of the first element of a list, or of the last
abbrev pub at_first : {A : Type 0} → (A → A) → List A → List A
at_first f [] = []
at_first f (x ∷ xs) = f x ∷ xs

abbrev pub at_last : {A : Type 0} → (A → A) → List A → List A
at_last f [] = []
at_last f (x ∷ []) = f x ∷ []
at_last f (x ∷ y ∷ xs) = x ∷ at_last f (y ∷ xs)

abbrev pub value_signs : List ℕ → List Sign
value_signs text = at_first cover_blank (at_last cover_blank (map value_sign text))

abbrev pub name_signs : List ℕ → List Sign
name_signs text = at_first cover_mark (at_first cover_blank (at_last cover_blank (map name_sign text)))

-- the line of a relative name and a value
abbrev pub line_of : List ℕ → List ℕ → List ℕ
line_of name value =
    flat_map spelled_sign (name_signs name) ++ (codes " = " ++ flat_map spelled_sign (value_signs value))

-- the text of a map: the lines of its keys in name order
abbrev pub text : KeyMap → List ℕ
text keys = ended (map (λ key. line_of (relative_text key.0) key.1.value) (finite.entries keys))

-- the format, which goes by keys
abbrev pub ini : Format
ini =
    record {
      Reads = Reads;
      IsBadAt = IsBadAt;
      text = text;
      Holds = λ _ name entry. IsIniKey name entry;
      is_keywise = true;
    }
