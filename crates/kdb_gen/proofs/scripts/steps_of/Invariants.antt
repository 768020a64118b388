-- The steps so far and those of the rounds that are left are all.
use Rattle.std.proofs.Common.{◌≡◌, ◌++◌}
use Rattle.std.specs.List.{flat_map}
use Rattle.kdb_gen.specs.Generated.{round_of, steps_of}
use Rattle.kdb_gen.proofs.RangeLemmas.{up_to}
use Rattle.kdb_gen.proofs.scripts.steps_of.Given as goal

abbrev pub invariant-loop-round : goal.invariant-loop-round
invariant-loop-round l =
    l.steps.items ++ flat_map (round_of l.rounds l.session) (up_to l.round l.rounds) ≡ steps_of l.rounds l.session
