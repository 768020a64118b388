-- Names with holes: `_` stands for any part, `#` for any item of an array. (After Elektra's page on specifications; the
-- rule is this project's own.)
use Rattle.std.specs.Prelude.{◌≡◌, ◌⊎◌, List, [], ◌∷◌, codes}
use Rattle.model_names.specs.Name.{Part}
use Rattle.model_names.specs.ArrayPart.{IsArrayPart}

-- a part fits a pattern's part: it is equal, or the pattern's is `_`, or it is `#` beside an item of an array
pub data FitsPart (part pattern : Part) : Type 0 where
  Same : part ≡ pattern → FitsPart part pattern
  AnyPart : pattern ≡ codes "_" → FitsPart part pattern
  Item : pattern ≡ codes "#" → IsArrayPart part → FitsPart part pattern

-- a list of parts matches a pattern that is as long, part by part
abbrev pub MatchesGlob : List Part → List Part → Type 0
MatchesGlob [] [] = Unit {0}
MatchesGlob [] (pattern ∷ patterns) = ⊥
MatchesGlob (part ∷ parts) [] = ⊥
MatchesGlob (part ∷ parts) (pattern ∷ patterns) = FitsPart part pattern × MatchesGlob parts patterns

-- a part that stands for others
abbrev pub IsHole : Part → Type 0
IsHole part = (part ≡ codes "_") ⊎ (part ≡ codes "#")

-- some part of a name stands for others
abbrev pub HasGlob : List Part → Type 0
HasGlob [] = ⊥
HasGlob (part ∷ parts) = IsHole part ⊎ HasGlob parts
