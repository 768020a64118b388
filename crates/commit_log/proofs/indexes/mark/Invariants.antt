-- The mounts so far have the number, and the others what they had.
use Rattle.std.proofs.Common.{◌≡◌, ℕ, if◌then◌else◌, take, length}
use Rattle.model_history.specs.History.{is_among}
use Rattle.commit_log.specs.Index.{last_of}
use Rattle.commit_log.proofs.indexes.mark.Given as goal

abbrev pub invariant-loop-mount : goal.invariant-loop-mount
invariant-loop-mount l = record {
  long : length l.last ≡ length l.initial.last;
  each : (m : ℕ) → last_of l.last m ≡ (if is_among (take l.mount-index l.mounts) m then l.number else last_of l.initial.last m);
}
