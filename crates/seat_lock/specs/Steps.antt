-- What each step on the table tells the seat that makes it.
use Rattle.std.specs.Prelude.{◌≡◌, ℕ, ◌%◌, ◌^◌, ◌==◌, MatchBool, List, [], ◌∷◌, Option, Some}
use mathlib.Core.List.{IsPrefix}
use Rattle.atomic_table.specs.Table.{Me, Step}
use Rattle.seat_lock.specs.declared.views.View.{View}
use Rattle.seat_lock.specs.Views.{with_ticket, holder_view, compared_view, ended_view, empty_view}
use Rattle.seat_lock.specs.Rule.{Owns, IsWithin}

module _ {E V : Type 0} where
  -- a ticket was drawn, and the word found is its number
  abbrev pub Draws : Step (Option V) → Me (Option V) (View E) → ℕ → Me (Option V) (View E) → Type 0
  Draws step me found after =
      (ticket : ℕ) × (found ≡ ticket % 2 ^ 64) × (after ≡ (with_ticket (Some ticket) me.0, me.1))

  -- what was seen and what was beside it begin one list, of which the longer is kept. It has no entries of the seat's
  -- numbers but those that they made
  abbrev pub Compares : (E → ℕ) → Step (Option V) → Me (Option V) (View E) → ℕ → Me (Option V) (View E) → Type 0
  Compares maker step me found after =
      (after ≡ (compared_view me.0, me.1)) × IsPrefix me.0.seen after.0.seen × IsPrefix me.0.beside after.0.seen × IsWithin maker after.0.seen me.0.mine

  -- the seat is new, and knows nothing
  abbrev pub Comes : Step (Option V) → Me (Option V) (View E) → ℕ → Me (Option V) (View E) → Type 0
  Comes step me found after = after ≡ (empty_view, [])

  -- the turn is over, and what the value gained is known
  abbrev pub Ends : (E → ℕ) → (V → List E) → Step (Option V) → Me (Option V) (View E) → ℕ → Me (Option V) (View E) → Type 0
  Ends maker more step me found after =
      (value : V) → me.1 ≡ (0, Some value) ∷ [] → after ≡ (ended_view maker (more value) me.0, [])

  -- the seat has the value, which stands for a list that begins with all that was seen, with the seat's own entries
  pub record Enters (maker : E → ℕ) (stands : V → List E → Type 0) (me after : Me (Option V) (View E)) : Type 0 where
    pub value : V
    pub stands_for : stands value after.0.seen
    pub seen : IsPrefix me.0.seen after.0.seen
    pub own : Owns maker after.0.seen me.0.mine
    pub after_is : after ≡ (holder_view after.0.seen me.0, (0, Some value) ∷ me.1)

  -- it is the seat's turn exactly where the word is its ticket
  abbrev pub Looks : (E → ℕ) → (V → List E → Type 0) → Step (Option V) → Me (Option V) (View E) → ℕ → Me (Option V) (View E) → Type 0
  Looks maker stands step me found after =
      (ticket : ℕ) → me.0.ticket ≡ Some ticket → MatchBool (found == ticket % 2 ^ 64) (Enters maker stands me after) (after ≡ me)
