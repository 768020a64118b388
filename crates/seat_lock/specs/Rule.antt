-- The rule of the table under a lock. Word 0 is the turn, word 1 the number of tickets drawn, both modulo 2^64, and the
-- one slot has the value, or nothing while a seat has it.
use Rattle.std.specs.Prelude.{◌≡◌, ◌⊎◌, ℕ, ◌+◌, ◌%◌, ◌^◌, ◌<◌, ◌≤◌, ◌==◌, Bool, true, cond, List, [], ◌∷◌, length, Option, Some, None}
use mathlib.Core.Option.{none, some}
use mathlib.Core.List.{IsPrefix}
use lib.ListN.{get_elem?}
use Rattle.atomic_table.specs.Table.{State}
use Rattle.seat_lock.specs.declared.views.View.{View}
use Rattle.seat_lock.specs.Story.{made_by}

-- f of each element, added up
abbrev pub total : {A : Type 0} → (A → ℕ) → List A → ℕ
total f [] = 0
total f (x ∷ xs) = f x + total f xs

-- 1 where the test holds, and else 0
abbrev pub one_if : Bool → ℕ
one_if test = cond test 1 0

-- how many tickets a view has
abbrev pub tickets : Option ℕ → ℕ
tickets None = 0
tickets (Some t) = 1

-- how many tickets of this number a view has
abbrev pub tickets_at : ℕ → Option ℕ → ℕ
tickets_at place None = 0
tickets_at place (Some t) = one_if (t == place)

-- the ticket is drawn, and its turn isn't over
abbrev pub IsOut : ℕ → ℕ → Option ℕ → Type 0
IsOut turn drawn None = Unit {0}
IsOut turn drawn (Some t) = (turn ≤ t) × (t < drawn)

module _ {E : Type 0} where
  -- how often a number stands in a list of numbers with their entries
  abbrev pub times : ℕ → List (ℕ × List E) → ℕ
  times number mine = total (λ m. one_if (m.0 == number)) mine

  -- no number has two views, and none is 0 or above the count of seats
  pub record HasNumbers (seats : ℕ) (views : List (View E)) : Type 0 where
    pub count : total (λ v. length v.mine) views ≡ seats
    pub single : (number : ℕ) → total (λ v. times number v.mine) views ≤ 1
    pub known : (number : ℕ) → (number ≡ 0) ⊎ (seats < number) → total (λ v. times number v.mine) views ≡ 0

  -- the tickets that are out differ, and are as many as were drawn since the turn
  pub record HasTickets (turn drawn : ℕ) (views : List (View E)) : Type 0 where
    pub out : drawn ≡ turn + total (λ v. tickets v.ticket) views
    pub apart : (place : ℕ) → total (λ v. tickets_at place v.ticket) views ≤ 1

module _ {E : Type 0} (maker : E → ℕ) where
  -- the entries of each number are the list's entries of that maker
  abbrev pub Owns : List E → List (ℕ × List E) → Type 0
  Owns log [] = Unit {0}
  Owns log (m ∷ ms) = (made_by maker m.0 log ≡ m.1) × Owns log ms

  -- of each number the list has no entries but the first of those that it made
  abbrev pub IsWithin : List E → List (ℕ × List E) → Type 0
  IsWithin log [] = Unit {0}
  IsWithin log (m ∷ ms) = IsPrefix (made_by maker m.0 log) m.1 × IsWithin log ms

  -- what the rule says of one view. A view with a ticket has a number, and who holds the value has the ticket of the
  -- turn and has seen the whole list
  pub record Fits (turn drawn : ℕ) (log : List E) (v : View E) : Type 0 where
    pub ticket : IsOut turn drawn v.ticket
    pub few : tickets v.ticket ≤ length v.mine
    pub seen : IsPrefix v.seen log
    pub beside : IsPrefix v.beside log
    pub own : Owns log v.mine
    pub holder : v.holds ≡ true → (v.ticket ≡ Some turn) × (v.seen ≡ log)

-- the value is in the slot, stands for the list, and no view holds it; or it is out with one view
abbrev pub HasPlace : {E V : Type 0} → (V → List E → Type 0) → List E → State (Option V) (View E) → Type 0
HasPlace {E} {V} stands log s =
    ((value : V) × (s.homes ≡ some (Some value) ∷ []) × stands value log × (total (λ v. one_if v.holds) s.views ≡ 0))
    ⊎ ((s.homes ≡ none ∷ []) × (total (λ v. one_if v.holds) s.views ≡ 1))

-- The rule: there is one list, for which the value stands, and with which all views agree
pub record Kept {E V : Type 0} (maker : E → ℕ) (stands : V → List E → Type 0) (start : List E) (seats : ℕ) (s : State (Option V) (View E)) : Type 0 where
  pub turn : ℕ
  pub drawn : ℕ
  pub log : List E
  pub few : seats < 2 ^ 64
  pub words : s.words ≡ turn % 2 ^ 64 ∷ drawn % 2 ^ 64 ∷ []
  pub numbers : HasNumbers seats s.views
  pub tickets_out : HasTickets turn drawn s.views
  pub each : (place : ℕ) (v : View E) → get_elem? s.views place ≡ some v → Fits maker turn drawn log v
  pub first : made_by maker 0 log ≡ start
  pub others : (number : ℕ) → seats < number → made_by maker number log ≡ []
  pub slot : HasPlace stands log s
