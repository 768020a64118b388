-- As many places as were counted, and nothing in them.
use Rattle.std.proofs.Common.{◌≡◌, length}
use Rattle.store_play.specs.Handles.{HoldNothing}
use Rattle.store_play.proofs.handles.no_sets.Given as goal

abbrev pub invariant-loop : goal.invariant-loop
invariant-loop l = record { count : length l.made.items ≡ l.counter; empty : HoldNothing l.made.items }
