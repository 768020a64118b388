-- The parts so far have been put in their places.
use Rattle.std.proofs.Common.{◌≡◌, ℕ, length}
use Rattle.model_store.specs.Store.{counts_in}
use Rattle.set_split.specs.Seen.{numbered}
use Rattle.store_verdict.specs.Kept.{kept_parts}
use Rattle.store_verdict.specs.RecordView.{fetched_at}
use Rattle.store_verdict.proofs.records.store_all.Given as goal

abbrev pub invariant-loop-part : goal.invariant-loop-part
invariant-loop-part l = record {
  len : length l.places ≡ length l.initial.places;
  kept : (m : ℕ) → fetched_at l.places m ≡ kept_parts (counts_in l.table) l.number (numbered l.yielded) (fetched_at l.initial.places) m;
}
