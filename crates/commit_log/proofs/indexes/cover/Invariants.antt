-- The mounts so far have places, and the numbers are those that were there.
use Rattle.std.proofs.Common.{◌≡◌, ◌<◌, ◌≤◌, ℕ, All, take, vec_len}
use Rattle.commit_log.specs.Index.{last_of}
use Rattle.commit_log.proofs.indexes.cover.Given as goal

abbrev pub invariant-loop-mount : goal.invariant-loop-mount
invariant-loop-mount l = record {
  same : (m : ℕ) → last_of l.last.items m ≡ last_of l.initial.last.items m;
  longer : vec_len l.initial.last ≤ vec_len l.last;
  covered : All (λ m. m < vec_len l.last) (take l.mount-index l.mounts);
}
