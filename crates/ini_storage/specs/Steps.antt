-- What reading one line, or adding one key, comes to. (This project's own.)
use Rattle.std.specs.Prelude.{Bool, true, false, List, ℕ}
use Rattle.model_maps.specs.KeyMap.{KeyMap}
use Rattle.model_ini.specs.Ini.{AddsKey, Step}

-- a line that was read leads from a map to the next, and one that wasn't leads nowhere
abbrev pub Steps : KeyMap → List ℕ → KeyMap → Bool → Type 0
Steps before line after true = Step before line after
Steps before line after false = (next : KeyMap) → Step before line next → ⊥

-- so for a key
abbrev pub Adds : KeyMap → List ℕ → List ℕ → KeyMap → Bool → Type 0
Adds before text value after true = AddsKey before text value after
Adds before text value after false = (next : KeyMap) → AddsKey before text value next → ⊥
