-- The places so far are empty.
use Rattle.std.proofs.Common.{◌≡◌, ℕ, None, length}
use Rattle.store_verdict.specs.RecordView.{fetched_at}
use Rattle.store_verdict.proofs.records.no_places.Given as goal

abbrev pub invariant-loop : goal.invariant-loop
invariant-loop l =
    record { len : length l.places.items ≡ l.counter; none : (m : ℕ) → fetched_at l.places.items m ≡ None }
