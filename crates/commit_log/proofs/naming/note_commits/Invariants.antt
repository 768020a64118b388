-- Each name has the marks that it had, and those of the commits so far.
use Rattle.std.proofs.Common.{◌≡◌, ◌++◌, map, take}
use Rattle.model_names.specs.Name.{Name}
use Rattle.commit_log.specs.CommitView.{commit_of}
use Rattle.commit_log.specs.Naming.{marks_at, marks_in}
use Rattle.commit_log.proofs.naming.note_commits.Given as goal

abbrev pub invariant-loop-i : goal.invariant-loop-i
invariant-loop-i l =
    (name : Name) → marks_at l.names name ≡ marks_at l.initial.names name ++ marks_in name l.first (map commit_of (take l.i l.commits))
