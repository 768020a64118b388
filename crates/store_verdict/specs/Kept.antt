-- What is kept of mounts after some parts are, one after the other.
use Rattle.std.specs.Prelude.{ℕ, nat_eq, if◌then◌else◌, Bool, List, [], ◌∷◌, Option, Some}
use Rattle.std.specs.Option.{option_map}
use Rattle.model_maps.specs.KeyMap.{KeyMap}
use Rattle.model_store.specs.Cores.{kept_from}
use Rattle.model_store.specs.Records.{Fetched}

-- from where on a mount is kept: a number; for a mount by key the front that it has, if any
abbrev pub front_from : Bool → ℕ → Option Fetched → Option ℕ
front_from by_key number fetched = if by_key then option_map (λ had. had.front) fetched else Some number

-- with the keys of one mount from a number on; of a mount by key from the front on that it has
abbrev pub with_part : (ℕ → Bool) → ℕ → ℕ × KeyMap → (ℕ → Option Fetched) → ℕ → Option Fetched
with_part by_key number part kept m = if nat_eq m part.0 then kept_from (by_key m) number part.1 (kept m) else kept m

abbrev pub kept_parts : (ℕ → Bool) → ℕ → List (ℕ × KeyMap) → (ℕ → Option Fetched) → ℕ → Option Fetched
kept_parts by_key number [] kept m = kept m
kept_parts by_key number (part ∷ parts) kept m = kept_parts by_key number parts (with_part by_key number part kept) m
