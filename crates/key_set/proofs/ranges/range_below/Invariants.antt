-- The keys from the first place up to the second are at or below the name, and the others are to come.
use Rattle.std.proofs.Common.{◌≡◌, ◌≤◌, ◌<◌, ℕ, drop, length, get_or, true}
use Rattle.model_names.specs.Below.{is_at_or_below}
use Rattle.key_set.proofs.SetLemmas.{Key}
use Rattle.key_set.proofs.ranges.range_below.Given as goal

abbrev pub invariant-loop-name : goal.invariant-loop-name
invariant-loop-name l =
    (l.name-iterator ≡ drop l.to l.keys)
    × (l.from ≤ l.to)
    × (l.to ≤ length l.keys)
    × ((k : ℕ) (d : Key) → l.from ≤ k → k < l.to → k < length l.keys → is_at_or_below l.at (get_or l.keys k d).0 ≡ true)
