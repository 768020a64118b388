-- The set is the union of the parts so far.
use Rattle.set_split.specs.Seen.{maps_of}
use Rattle.set_split.specs.Union.{IsUnion}
use Rattle.set_split.proofs.uniting.unite.Given as goal

abbrev pub invariant-loop-part : goal.invariant-loop-part
invariant-loop-part l = IsUnion (maps_of l.yielded) l.keys
