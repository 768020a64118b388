-- The keys so far have no violation, and the count of refusals hasn't fallen.
use Rattle.std.proofs.Common.{◌≤◌, []}
use Rattle.std.specs.FinMap as finite
use Rattle.kdb_outside.specs.Faults.{HasRisen}
use Rattle.model_specified.specs.Violations.{is_owned}
use Rattle.plugin_chain.proofs.WalkLemmas.{Reached}
use Rattle.plugin_chain.proofs.listing.first_in.Given as goal

abbrev pub invariant-loop-name : goal.invariant-loop-name
invariant-loop-name g l = record {
  reached : Reached (HasRisen (g.P.Patterns.refusals l.fn.patterns) (g.P.Patterns.refusals l.patterns)) l.specs (is_owned l.points l.touched) (finite.entries l.made) l.name-iterator [];
  later : g.P.Patterns.refusals l.fn.patterns ≤ g.P.Patterns.refusals l.patterns;
}
