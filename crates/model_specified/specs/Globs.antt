-- Names with holes, as tests. (After Elektra's page on specifications; the rule is this project's own.)
use Rattle.std.specs.Prelude.{Bool, true, false, ◌&&◌, ◌||◌, List, [], ◌∷◌, codes}
use Rattle.std.specs.List.{list_any}
use Rattle.general_words.specs.Texts.{is_text}
use Rattle.model_names.specs.ArrayPart.{is_array_like, is_canonical}
use Rattle.model_names.specs.Name.{Part}

-- a part fits a pattern's part: it is equal, or the pattern's is `_`, or it is `#` beside an item of an array
abbrev pub fits_part : Part → Part → Bool
fits_part part pattern =
    is_text part pattern || (is_text pattern (codes "_") || (is_text pattern (codes "#") && (is_array_like part && is_canonical part)))

-- a list of parts matches a pattern that is as long, part by part
abbrev pub matches_glob : List Part → List Part → Bool
matches_glob [] [] = true
matches_glob [] (pattern ∷ patterns) = false
matches_glob (part ∷ parts) [] = false
matches_glob (part ∷ parts) (pattern ∷ patterns) = fits_part part pattern && matches_glob parts patterns

-- some part stands for others
abbrev pub has_glob : List Part → Bool
has_glob parts = list_any (λ part. is_text part (codes "_") || is_text part (codes "#")) parts
