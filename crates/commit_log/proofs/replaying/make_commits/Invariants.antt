-- The keys after the commits so far.
use Rattle.std.proofs.Common.{◌≡◌, take, map}
use Rattle.model_history.specs.History.{replay}
use Rattle.commit_log.specs.CommitView.{commit_of}
use Rattle.commit_log.proofs.replaying.make_commits.Given as goal

abbrev pub invariant-loop-commit : goal.invariant-loop-commit
invariant-loop-commit l = l.keys ≡ replay l.initial.keys (map commit_of (take l.commit-index l.commits))
