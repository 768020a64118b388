-- Each name has the marks that it had, and those of the changes so far.
use Rattle.std.proofs.Common.{◌≡◌, ◌++◌, map, take}
use Rattle.model_names.specs.Name.{Name}
use Rattle.commit_log.specs.CommitView.{change_of}
use Rattle.commit_log.specs.Naming.{marks_at, marks_of}
use Rattle.commit_log.proofs.naming.note_changes.Given as goal

abbrev pub invariant-loop-change : goal.invariant-loop-change
invariant-loop-change l =
    (name : Name) → marks_at l.names name ≡ marks_at l.initial.names name ++ marks_of name l.mark (map change_of (take l.change-index l.changes))
