-- The name is that of no change so far.
use Rattle.std.proofs.Common.{◌≡◌, false, map, take}
use Rattle.std.specs.List.{list_any}
use Rattle.model_names.specs.Order.{name_eq}
use Rattle.commit_log.specs.CommitView.{change_of}
use Rattle.commit_log.proofs.commits.changes_name.Given as goal

abbrev pub invariant-loop-change : goal.invariant-loop-change
invariant-loop-change l =
    list_any (λ change. name_eq l.name change.0) (take l.change-index (map change_of l.change-items)) ≡ false
