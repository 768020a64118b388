-- No commit so far is another handle's and changes the name.
use Rattle.std.proofs.Common.{◌≡◌, map}
use Rattle.model_history.specs.History.{first_change_after}
use Rattle.commit_log.specs.CommitView.{commit_of}
use Rattle.commit_log.proofs.histories.first_change_behind.Given as goal

abbrev pub invariant-loop-i : goal.invariant-loop-i
invariant-loop-i l =
    first_change_after (map commit_of l.commits) l.name l.front l.not_by ≡ first_change_after (map commit_of l.commits) l.name l.i l.not_by
