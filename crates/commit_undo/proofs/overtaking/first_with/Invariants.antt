-- None of the commits so far changes one of the names.
use Rattle.std.proofs.Common.{◌≡◌, ◌+◌, drop, is_some, map as over}
use Rattle.std.specs.FinMap.{find}
use Rattle.commit_log.specs.CommitView.{commit_of}
use Rattle.model_names.specs.Order.{name_cmp}
use Rattle.model_undo.specs.Undoing.{first_with}
use Rattle.commit_undo.proofs.overtaking.first_with.Given as goal

abbrev pub invariant-loop-i : goal.invariant-loop-i
invariant-loop-i l =
    first_with (λ name. is_some (find name_cmp name l.names)) (l.number + 1) (drop l.number (over commit_of l.commits))
    ≡ first_with (λ name. is_some (find name_cmp name l.names)) (l.i + 1) (drop l.i (over commit_of l.commits))
