-- Lists of entries, each with its maker's number: what a seat and a lock promise about the list for which the shared
-- value stands.
use Rattle.std.specs.Prelude.{◌≡◌, ◌⊎◌, ℕ, ◌+◌, ◌<◌, ◌==◌, cond, nat_lt, List, [], ◌∷◌, length, filter, slice_get, Some, All}
use mathlib.Core.List.{IsPrefix}
use Rattle.seat_lock.specs.Known.{Known, Place, knowledge}

-- the longer of two lists, the first of two that are as long
abbrev pub longer : {E : Type 0} → List E → List E → List E
longer xs ys = cond (nat_lt (length xs) (length ys)) ys xs

module _ {E : Type 0} (maker : E → ℕ) where
  -- the entries that one maker made, in their order
  abbrev pub made_by : ℕ → List E → List E
  made_by number log = filter (λ entry. maker entry == number) log

  -- nobody made these entries: they were there when the lock was made
  abbrev pub HasNoMaker : List E → Type 0
  HasNoMaker log = All (λ entry. maker entry ≡ 0) log

  -- what one turn adds: nothing, or one entry of the turn's own number
  abbrev pub IsOneTurn : ℕ → List E → Type 0
  IsOneTurn number added = (added ≡ []) ⊎ ((entry : E) × (maker entry ≡ number) × (added ≡ entry ∷ []))

-- What a closed lock gives: a value that stands for one list, which begins with all that each seat has seen. Each
-- seat's own entries are those that it made, in order. The others are those with which the lock began, and no more
pub record IsClosed {E V : Type 0} (maker : E → ℕ) (stands : V → List E → Type 0) (lock : Place E) (seats : List (Known E)) (value : V) : Type 0 where
  pub log : List E
  pub stands_for : stands value log
  pub seen : All (λ seat. IsPrefix seat.seen log) seats
  pub own : All (λ seat. made_by maker seat.number log ≡ seat.own) seats
  pub first : made_by maker 0 log ≡ lock.start
  pub others : (number : ℕ) → lock.seats < number → made_by maker number log ≡ []

-- The seats of a new lock: numbered from 1, each has seen the entries with which the lock began, and made none
pub record AreNew {E : Type 0} (lock : Place E) (seats : List (Known E)) : Type 0 where
  pub count : length seats ≡ lock.seats
  pub each : (k : ℕ) → k < lock.seats → slice_get seats k ≡ Some (knowledge lock.place (k + 1) lock.start [])
