-- What a text of a record may be. (This project's own.)
use Rattle.std.specs.Prelude.{ℕ, List, ◌∷◌}
use Rattle.model_names.specs.Name.{Name}
use Rattle.model_names.specs.Spells.{Spells}

-- a text spells no name behind a slash
abbrev pub SpellsNothing : List ℕ → Type 0
SpellsNothing text = (name : Name) → Spells (47 ∷ text) name → ⊥
