-- Names below the points of mounts.
use Rattle.std.specs.Prelude.{ℕ, Bool, false, List, slice_get}
use Rattle.std.specs.Option.{option_map_or}
use Rattle.model_names.specs.Below.{is_at_or_below}
use Rattle.model_names.specs.Name.{Name}

-- a name is the point of the mount of a number or below it
abbrev pub is_below_at : List Name → Name → ℕ → Bool
is_below_at points name mount = option_map_or (λ point. is_at_or_below point name) (slice_get points mount) false
