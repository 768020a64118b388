-- The chunks so far and what is left of the place make up the place.
use Rattle.std.proofs.Common.{◌≡◌, ◌+◌, take, length}
use Rattle.chunked_map.specs.Chunks.{joined}
use Rattle.chunked_map.proofs.ranges.place_in.Given as goal

abbrev pub invariant-loop-at : goal.invariant-loop-at
invariant-loop-at g l = length (joined (take l.at l.chunks)) + l.left ≡ l.place
