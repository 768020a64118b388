-- What a write of one byte does at a journal's gate, and one behind it.
use Rattle.std.proofs.Common.{◌≡◌, ℕ, List, [], ◌∷◌, inl, inr, Some, slice_get, refl, ap, ◌∙◌, arith}
use Rattle.kdb_outside.specs.Files.{written}
use Rattle.kdb_outside.specs.Images.{IsTornWrite}
use Rattle.journal_steps.specs.JournalBytes.{gate, IsShut, IsClosed}

gate-kept : (before now : List ℕ) → IsTornWrite 0 (0 ∷ []) before now → slice_get before 0 ≡ Some 0
    → slice_get now 0 ≡ Some 0
gate-kept before now torn closed = torn.same 0 (omega arith) closed ∙ closed

gate_from_first : (c : List ℕ) → slice_get c 0 ≡ Some 0 → gate c ≡ 0
gate_from_first [] is = refl
gate_from_first (x ∷ c) is = cc

-- a closed gate that is closed again stays closed, and a short journal stays short
pub IsShut-kept : (before now : List ℕ) → IsTornWrite 0 (0 ∷ []) before now → IsShut before → IsShut now
IsShut-kept before now torn (inl short) = inl (omega (arith, torn.no_longer))
IsShut-kept [] now torn (inr closed) = inl (omega (arith, torn.no_longer))
IsShut-kept (x ∷ before) now torn (inr closed) =
    inr (gate_from_first now (gate-kept (x ∷ before) now torn (ap Some closed)))

-- a write behind a closed gate leaves it closed
pub IsClosed-behind : (bytes before now : List ℕ) → IsTornWrite 1 bytes before now → IsClosed before → IsClosed now
IsClosed-behind bytes [] now torn closed = absurd (omega (arith, closed.there))
IsClosed-behind bytes (x ∷ before) [] torn closed = absurd (omega (arith, torn.no_shorter))
IsClosed-behind bytes (x ∷ before) (y ∷ now) torn closed =
    let same : y ∷ [] ≡ x ∷ [] = torn.front in
    let first : y ≡ x = cc in
    record { there = omega arith; gate_is = first ∙ closed.gate_is }

pub IsClosed-written : (before : List ℕ) → IsClosed (written before 0 (0 ∷ []))
IsClosed-written before = record { there = omega arith; gate_is = refl }
