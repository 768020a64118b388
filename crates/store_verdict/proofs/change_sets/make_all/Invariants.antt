-- The keys with the changes so far.
use Rattle.std.proofs.Common.{◌≡◌, take, map as over}
use Rattle.model_history.specs.Changes.{changed_by}
use Rattle.store_verdict.proofs.ChangeSetLemmas.{seen_change}
use Rattle.store_verdict.proofs.change_sets.make_all.Given as goal

abbrev pub invariant-loop-change : goal.invariant-loop-change
invariant-loop-change l = l.keys ≡ changed_by (over seen_change (take l.change-index l.changes)) l.initial.keys
