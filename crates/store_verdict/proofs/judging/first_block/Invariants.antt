-- None of the mounts so far is blocked.
use Rattle.std.proofs.Common.{◌≡◌, None, take}
use Rattle.general_words.specs.Searches.{first_some}
use Rattle.model_store.specs.Store.{Store}
use Rattle.model_store.specs.Verdicts.{conflict_at}
use Rattle.store_verdict.specs.PreparedView.{prepared_of}
use Rattle.store_verdict.proofs.judging.first_block.Given as goal

abbrev pub invariant-loop-mount : goal.invariant-loop-mount
invariant-loop-mount l =
    (store : Store) → store.mounts ≡ l.table → first_some (conflict_at store l.history.commits (prepared_of l.set)) (take l.mount-index l.set.touched) ≡ None
