use Rattle.std.proofs.Common.{◌≡◌, ◌+◌, ◌≤◌, length, take}
use Rattle.std.specs.List.{flat_map}
use Rattle.model_names.specs.Spelling.{escaped}
use Rattle.key_name.proofs.measuring.escapes.Given as goal

abbrev pub invariant-loop-b : goal.invariant-loop-b
invariant-loop-b l =
    (l.count ≤ l.b-index) × (l.count + l.b-index ≡ length (flat_map escaped (take l.b-index l.b-items)))
