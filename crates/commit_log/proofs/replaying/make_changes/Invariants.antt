-- The keys with the changes so far.
use Rattle.std.proofs.Common.{◌≡◌, take, map}
use Rattle.model_history.specs.Changes.{changed_by}
use Rattle.commit_log.specs.CommitView.{change_of}
use Rattle.commit_log.proofs.replaying.make_changes.Given as goal

abbrev pub invariant-loop-change : goal.invariant-loop-change
invariant-loop-change l = l.keys ≡ changed_by (map change_of (take l.change-index l.changes)) l.initial.keys
