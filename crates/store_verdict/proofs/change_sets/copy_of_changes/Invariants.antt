-- The changes so far have been copied.
use Rattle.std.proofs.Common.{◌≡◌, take, map as over}
use Rattle.std.specs.Option.{option_map}
use Rattle.key_set.specs.EntryView.{entry_of}
use Rattle.commit_log.specs.CommitView.{change_of}
use Rattle.store_verdict.proofs.change_sets.copy_of_changes.Given as goal

abbrev pub invariant-loop-change : goal.invariant-loop-change
invariant-loop-change l =
    over change_of l.copied.items ≡ over (λ change. (change.0, option_map entry_of change.1)) (take l.change-index l.changes)
