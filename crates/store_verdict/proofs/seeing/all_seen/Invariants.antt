-- The mounts so far were fetched.
use Rattle.std.proofs.Common.{◌≡◌, None, take}
use Rattle.store_verdict.specs.RecordView.{record_of}
use Rattle.store_verdict.specs.Seeing.{AreSeen, unseen}
use Rattle.store_verdict.proofs.seeing.all_seen.Given as goal

abbrev pub invariant-loop-mount : goal.invariant-loop-mount
invariant-loop-mount l = record {
  seen : AreSeen (record_of l.rec) (take l.mount-index l.mounts) l.seen.items;
  none : unseen (record_of l.rec) (take l.mount-index l.mounts) ≡ None;
}
