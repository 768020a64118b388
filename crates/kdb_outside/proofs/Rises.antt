-- A count of faults that rose in one of several calls rose over all of them.
use Rattle.std.proofs.Common.{ℕ, ◌≤◌, inl, inr, arith}
use Rattle.std.proofs.lemmas.Bool.{cases_lt}
use Rattle.kdb_outside.specs.Faults.{HasRisen}

-- a count that rose later rose since earlier
pub risen_since : (a b c : ℕ) → a ≤ b → HasRisen b c → HasRisen a c
risen_since a b c le (inl lt) = inl (omega arith)
risen_since a b c le (inr top) = inr top

-- a count that rose stays risen
pub risen_still : (a b c : ℕ) → a ≤ b → b ≤ c → HasRisen a b → HasRisen a c
risen_still a b c first second (inl lt) = inl (omega arith)
risen_still a b c first second (inr top) = elim (cases_lt a c) [ inl lt ↦ inl lt | inr le ↦ inr (omega arith) ]
