-- The names are those of the changes so far.
use Rattle.std.proofs.Common.{◌≡◌, is_some, map as over, take}
use Rattle.std.specs.FinMap.{find}
use Rattle.commit_log.specs.CommitView.{change_of}
use Rattle.model_names.specs.Name.{Name}
use Rattle.model_names.specs.Order.{name_cmp}
use Rattle.model_undo.specs.Undoing.{is_changed}
use Rattle.commit_undo.proofs.overtaking.names_of.Given as goal

abbrev pub invariant-loop-change : goal.invariant-loop-change
invariant-loop-change l =
    (name : Name) → is_some (find name_cmp name l.names) ≡ is_changed (over change_of (take l.change-index l.changes)) name
