-- The sum so far and those of the values to come are the sum of all; where those to come are numbers all are.
use Rattle.std.proofs.Common.{◌≡◌, ◌+◌, sum_by}
use Rattle.std.specs.FinMap as map
use Rattle.std.specs.List.{AllByRecursion}
use Rattle.kdb_tool.proofs.tallying.sum_of.Given as goal
use Rattle.kdb_tool.specs.Generated.{IsNumber, number_of}

abbrev pub invariant-loop-name : goal.invariant-loop-name
invariant-loop-name l =
    (l.sum + sum_by (λ key. number_of key.1.value) l._name-iterator ≡ sum_by (λ key. number_of key.1.value) (map.entries l.keys))
    × (AllByRecursion (λ key. IsNumber key.1.value) l._name-iterator → AllByRecursion (λ key. IsNumber key.1.value) (map.entries l.keys))
