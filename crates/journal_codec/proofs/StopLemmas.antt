-- The fault that a stop is.
use Rattle.std.proofs.Common.{◌≡◌, ℕ, ◌-◌, Result, Err}
use Rattle.journal_codec.specs.declared.faults.DecodeFault.TheVariants.{BadJournal}
use Rattle.journal_codec.specs.declared.faults.Stop.{Stop}
use Rattle.journal_codec.specs.declared.faults.Stop.TheVariants as stops
use Rattle.journal_codec.specs.Stops.{IsStopOf, fault_at}

-- a fault at a place is a stop that reading gives
pub stopped_at : {Y : Type 0} (read : Result Y ℕ) (stop : Stop) (size at : ℕ) → IsStopOf read stop
    → fault_at size stop ≡ BadJournal at
    → (left : ℕ) × (read ≡ Err left) × (size - left ≡ at)
stopped_at read stops.Memory size at stop e = absurd cc
stopped_at read (stops.Before left) size at stop e = (left, stop (λ is. absurd cc), cc)
