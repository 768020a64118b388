-- The keys so far that the mount owns, with those to come that it owns, are all of them.
use Rattle.std.proofs.Common.{◌≡◌}
use Rattle.set_split.specs.Involved.{owns}
use Rattle.set_split.specs.Parts.{owned_by}
use Rattle.set_split.proofs.PassingLemmas.{with_passing}
use Rattle.set_split.proofs.owning.gathered.Given as goal

abbrev pub invariant-loop-name : goal.invariant-loop-name
invariant-loop-name l = with_passing (owns l.points l.i) l.name-iterator l.owned ≡ owned_by l.points l.i l.keys
