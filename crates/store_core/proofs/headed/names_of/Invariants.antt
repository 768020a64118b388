-- The names of the files so far have been copied.
use Rattle.std.proofs.Common.{◌≡◌, map, take}
use Rattle.store_core.proofs.headed.names_of.Given as goal

abbrev pub invariant-loop-entry : goal.invariant-loop-entry
invariant-loop-entry l = l.names.items ≡ map (λ entry. entry.0) (take l.entry-index l.entry-items)
