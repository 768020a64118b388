-- The list has the violations of the keys so far, and the count of refusals hasn't fallen.
use Rattle.std.proofs.Common.{◌≤◌}
use Rattle.std.specs.FinMap as finite
use Rattle.kdb_outside.specs.Faults.{HasRisen}
use Rattle.model_specified.specs.Violations.{is_within}
use Rattle.plugin_chain.proofs.WalkLemmas.{Reached}
use Rattle.plugin_chain.proofs.listing.all_at.Given as goal

abbrev pub invariant-loop-name : goal.invariant-loop-name
invariant-loop-name g l = record {
  reached : Reached (HasRisen (g.P.Patterns.refusals l.fn.patterns) (g.P.Patterns.refusals l.patterns)) l.specs (is_within l.at) (finite.entries l.made) l.name-iterator l.list.items;
  later : g.P.Patterns.refusals l.fn.patterns ≤ g.P.Patterns.refusals l.patterns;
}
