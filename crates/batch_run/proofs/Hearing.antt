-- What all have seen once the first of them has heard from the others, and they from it.
use Rattle.std.proofs.Common.{◌≡◌, ℕ, zero, suc, ◌<◌, List, ◌∷◌, length, get_or, arith}
use mathlib.Core.List.{IsPrefix}
use Rattle.batch_run.specs.declared.workers.Worker.{Worker}
use Rattle.kdb_handle.specs.Story.{Told}
use Rattle.seat_lock.proofs.Prefixes.{prefix-trans}

abbrev pub seen_by : Worker → List Told
seen_by worker = worker.session.handle.seen

module _ (first new : Worker) (others news : List Worker) where
  heard : IsPrefix (seen_by first) (seen_by new)
      → ((i : ℕ) (d : Worker) → i < length others → IsPrefix (seen_by (get_or others i d)) (seen_by new))
      → (j : ℕ) (d : Worker) → j < length (first ∷ others)
      → IsPrefix (seen_by (get_or (first ∷ others) j d)) (seen_by new)
  heard own all zero d lt = own
  heard own all (suc j) d lt = all j d (omega arith)

  pub all-heard : length news ≡ length others → IsPrefix (seen_by first) (seen_by new)
      → ((i : ℕ) (d : Worker) → i < length others → IsPrefix (seen_by (get_or others i d)) (seen_by new))
      → ((i : ℕ) (d : Worker) → i < length others → IsPrefix (seen_by new) (seen_by (get_or news i d)))
      → (i j : ℕ) (d : Worker) → i < length (first ∷ others) → j < length (first ∷ others)
      → IsPrefix (seen_by (get_or (first ∷ others) j d)) (seen_by (get_or (new ∷ news) i d))
  all-heard many own all told zero j d lt lt_j = heard own all j d lt_j
  all-heard many own all told (suc i) j d lt lt_j =
      prefix-trans (seen_by (get_or (first ∷ others) j d)) (seen_by new) (seen_by (get_or news i d)) (heard own all j d lt_j) (told i d (omega arith))
