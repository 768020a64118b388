-- A map's entries one by one, in the order of their keys.
use Rattle.std.specs.Prelude.{ℕ, take}
use Rattle.std.specs.FinMap as map
use Rattle.std.specs.FinMap.{FinMap}
use Rattle.std.specs.declared.cmp.Ordering.{Ordering}

-- the map of the first entries
abbrev pub front : {K X : Type 0} {R : K → K → Ordering} → FinMap R X → ℕ → FinMap R X
front m n = map.from_sorted (take n (map.entries m))
