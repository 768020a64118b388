-- What the functions on the table say of a seat, before and after.
use Rattle.std.specs.Prelude.{◌≡◌, ℕ, ◌<◌, ◌%◌, ◌^◌, true, false, List, [], ◌∷◌, length, All, Option, Some, None}
use mathlib.Core.List.{IsPrefix}
use Rattle.atomic_table.specs.Table.{Me}
use Rattle.atomic_table.specs.Seated.{TableId}
use Rattle.seat_lock.specs.declared.views.View.{View}
use Rattle.seat_lock.specs.Known.{Known}
use Rattle.seat_lock.specs.Story.{made_by}
use Rattle.seat_lock.specs.Views.{idle_view, seen_of, own_of, first_own}
use Rattle.seat_lock.specs.Rule.{times, Owns}

-- a table has a word for the turn, one for the tickets, and a slot
abbrev pub IsBoard : TableId → Type 0
IsBoard id = (id.words ≡ 2) × (id.slots ≡ 1)

module _ {E : Type 0} where
  -- a seat with a number that waits for nothing and has nothing in hand
  pub record IsOutside {S : Type 0} (me : Me S (View E)) : Type 0 where
    pub ticket : me.0.ticket ≡ None
    pub free : me.0.holds ≡ false
    pub hand : me.1 ≡ []

  -- the same, before its turn comes
  pub record IsWaiting {S : Type 0} (word : ℕ) (me : Me S (View E)) : Type 0 where
    pub place : ℕ
    pub ticket : me.0.ticket ≡ Some place
    pub word_is : word ≡ place % 2 ^ 64
    pub free : me.0.holds ≡ false
    pub hand : me.1 ≡ []

  -- a seat outside of a turn with one number, as its badge has it
  pub record IsSeated (number front : ℕ) (views : List (View E)) : Type 0 where
    pub views_are : views ≡ idle_view (seen_of views) ((number, own_of views) ∷ []) ∷ []
    pub front_is : front ≡ length (seen_of views)

  -- only numbers of this view add something
  abbrev pub CanGain : (E → ℕ) → List E → List (ℕ × List E) → Type 0
  CanGain maker added mine = (number : ℕ) → times number mine ≡ 0 → made_by maker number added ≡ []

  -- a seat in its turn, with the value in the caller's hands
  pub record HasEntered {V : Type 0} (maker : E → ℕ) (stands : V → List E → Type 0) (me after : Me (Option V) (View E)) (value : V) : Type 0 where
    pub stands_for : stands value after.0.seen
    pub seen : IsPrefix me.0.seen after.0.seen
    pub own : Owns maker after.0.seen me.0.mine
    pub holds : after.0.holds ≡ true
    pub beside : after.0.beside ≡ me.0.beside
    pub mine : after.0.mine ≡ me.0.mine
    pub hand : after.1 ≡ (0, None) ∷ []

  -- a seat in its turn with one number
  pub record IsInTurn {V : Type 0} (number : ℕ) (me : Me (Option V) (View E)) : Type 0 where
    pub holds : me.0.holds ≡ true
    pub beside : me.0.beside ≡ []
    pub mine : me.0.mine ≡ (number, first_own me.0.mine) ∷ []
    pub hand : me.1 ≡ (0, None) ∷ []

  -- a seat that has all numbers of some seats, and has seen what each of them had
  pub record HasAll (maker : E → ℕ) (seats : List (Known E)) (v : View E) : Type 0 where
    pub count : length v.mine ≡ length seats
    pub seen : All (λ seat. IsPrefix seat.seen v.seen) seats
    pub own : (log : List E) → Owns maker log v.mine → All (λ seat. made_by maker seat.number log ≡ seat.own) seats

  -- the value of a table that no thread shares any more, as the seat with all numbers knows it
  pub record IsShut {V : Type 0} (maker : E → ℕ) (stands : V → List E → Type 0) (start : List E) (seats : ℕ) (v : View E) (value : V) : Type 0 where
    pub log : List E
    pub stands_for : stands value log
    pub seen : IsPrefix v.seen log
    pub own : Owns maker log v.mine
    pub first : made_by maker 0 log ≡ start
    pub others : (number : ℕ) → seats < number → made_by maker number log ≡ []
