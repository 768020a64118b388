-- The entries so far have been copied.
use Rattle.std.proofs.Common.{◌≡◌, take}
use Rattle.chunked_map.proofs.shared.copy_of.Given as goal

abbrev pub invariant-loop-entry : goal.invariant-loop-entry
invariant-loop-entry g l = l.copied.items ≡ take l.entry-index l.entries
