-- What the keys that are still to come add to the changes so far is all that was to be added.
use Rattle.std.proofs.Common.{◌≡◌, ◌+◌, T, length}
use Rattle.std.specs.FinMap as map
use Rattle.std.specs.FinMap.{is_sorted}
use Rattle.std.specs.Option.{option_or}
use Rattle.model_names.specs.Name.{Name}
use Rattle.model_names.specs.Order.{name_cmp}
use Rattle.model_history.specs.Changes.{change_at}
use Rattle.store_verdict.specs.Walking.{change_between}
use Rattle.store_verdict.proofs.touching.add_difference.Given as goal

abbrev pub invariant-loop-had : goal.invariant-loop-had
invariant-loop-had l = record {
  added : (q : Name) → option_or (change_between l.had l.new q) (map.get l.changes q) ≡ option_or (change_at l.before l.wanted q) (map.get l.initial.changes q);
  sorted : T (is_sorted name_cmp l.had);
  wanted_sorted : T (is_sorted name_cmp l.new);
}

abbrev pub decreases-loop-had : goal.decreases-loop-had
decreases-loop-had l = length l.had + length l.new
