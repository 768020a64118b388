-- The numbers are those that were there.
use Rattle.std.proofs.Common.{◌≡◌, ◌≤◌, ◌-◌, ◌+◌, ℕ, vec_len}
use Rattle.commit_log.specs.Index.{last_of}
use Rattle.commit_log.proofs.indexes.cover_one.Given as goal

abbrev pub invariant-loop-last : goal.invariant-loop-last
invariant-loop-last l = record {
  same : (m : ℕ) → last_of l.last.items m ≡ last_of l.initial.last.items m;
  longer : vec_len l.initial.last ≤ vec_len l.last;
}

abbrev pub decreases-loop-last : goal.decreases-loop-last
decreases-loop-last l = l.mount + 1 - vec_len l.last
