-- Which parts are touched.
use Rattle.std.specs.Prelude.{ℕ, Bool, not}
use Rattle.key_set.specs.Same.{same_keys}
use Rattle.model_maps.specs.KeyMap.{KeyMap}
use Rattle.model_store.specs.Records.{Record}
use Rattle.model_store.specs.Sets.{kept}

-- the keys of a part are not those that a record keeps of its mount
abbrev pub differs_at : Record → ℕ × KeyMap → Bool
differs_at rec part = not (same_keys part.1 (kept rec part.0))
