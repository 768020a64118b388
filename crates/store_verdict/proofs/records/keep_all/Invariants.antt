-- The parts so far have been put in their places.
use Rattle.std.proofs.Common.{◌≡◌, ℕ, false, length}
use Rattle.set_split.specs.Seen.{numbered}
use Rattle.store_verdict.specs.Kept.{kept_parts}
use Rattle.store_verdict.specs.RecordView.{fetched_at}
use Rattle.store_verdict.proofs.records.keep_all.Given as goal

abbrev pub invariant-loop-part : goal.invariant-loop-part
invariant-loop-part l = record {
  len : length l.places ≡ length l.initial.places;
  kept : (m : ℕ) → fetched_at l.places m ≡ kept_parts (λ _. false) l.front (numbered l.yielded) (fetched_at l.initial.places) m;
}
