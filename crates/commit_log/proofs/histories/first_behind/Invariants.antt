-- No commit so far touches the mount.
use Rattle.std.proofs.Common.{◌≡◌, map}
use Rattle.model_history.specs.History.{first_after}
use Rattle.commit_log.specs.CommitView.{commit_of}
use Rattle.commit_log.proofs.histories.first_behind.Given as goal

abbrev pub invariant-loop-i : goal.invariant-loop-i
invariant-loop-i l =
    first_after (map commit_of l.commits) l.mount l.front ≡ first_after (map commit_of l.commits) l.mount l.i
