-- What a seat knows, and how it changes.
use Rattle.std.specs.Prelude.{ℕ, zero, suc, true, false, List, [], ◌∷◌, ◌++◌, take, drop, Option, None}
use Rattle.seat_lock.specs.declared.views.View.{View}
use Rattle.seat_lock.specs.Story.{made_by, longer}

module _ {E : Type 0} where
  -- a seat outside of a turn
  abbrev pub idle_view : List E → List (ℕ × List E) → View E
  idle_view seen mine = record { ticket = None; holds = false; seen = seen; beside = []; mine = mine }

  -- a seat with this ticket, or with none
  abbrev pub with_ticket : Option ℕ → View E → View E
  with_ticket ticket v = record { ticket = ticket; holds = v.holds; seen = v.seen; beside = v.beside; mine = v.mine }

  -- a seat that found this list, and has the value
  abbrev pub holder_view : List E → View E → View E
  holder_view log v = record { ticket = v.ticket; holds = true; seen = log; beside = v.beside; mine = v.mine }

  -- a seat that has compared what it saw with what another saw
  abbrev pub compared_view : View E → View E
  compared_view v =
      record { ticket = v.ticket; holds = v.holds; seen = longer v.seen v.beside; beside = []; mine = v.mine }

  -- a new seat gets the first numbers of a view, and has seen as much
  abbrev pub dealt_view : ℕ → View E → View E
  dealt_view count v = idle_view v.seen (take count v.mine)

  -- what is left of a view then
  abbrev pub rest_view : ℕ → View E → View E
  rest_view count v =
      record { ticket = v.ticket; holds = v.holds; seen = v.seen; beside = v.beside; mine = drop count v.mine }

  -- a seat with the numbers of another, which keeps what that one saw until it compares them
  abbrev pub joint_view : View E → View E → View E
  joint_view v w =
      record { ticket = v.ticket; holds = v.holds; seen = v.seen; beside = w.seen; mine = v.mine ++ w.mine }

  -- a seat that knows and has nothing
  abbrev pub empty_view : View E
  empty_view = idle_view [] []

  -- count numbers from low + 1 on, which have made nothing
  abbrev pub numbers_from : ℕ → ℕ → List (ℕ × List E)
  numbers_from low zero = []
  numbers_from low (suc count) = (suc low, []) ∷ numbers_from (suc low) count

  -- what is known when a lock is made
  abbrev pub first_view : List E → ℕ → View E
  first_view start seats = idle_view start (numbers_from 0 seats)

  -- what the first view of a list has seen
  abbrev pub seen_of : List (View E) → List E
  seen_of [] = []
  seen_of (v ∷ vs) = v.seen

  -- the entries that the first number made
  abbrev pub first_own : List (ℕ × List E) → List E
  first_own [] = []
  first_own (m ∷ ms) = m.1

  -- the entries that the first number of the first view made
  abbrev pub own_of : List (View E) → List E
  own_of [] = []
  own_of (v ∷ vs) = first_own v.mine

module _ {E : Type 0} (maker : E → ℕ) where
  -- each number with its entries among the added ones, too
  abbrev pub with_gains : List E → List (ℕ × List E) → List (ℕ × List E)
  with_gains added [] = []
  with_gains added (m ∷ ms) = (m.0, m.1 ++ made_by maker m.0 added) ∷ with_gains added ms

  -- a seat at the end of its turn, in which these entries were added
  abbrev pub ended_view : List E → View E → View E
  ended_view added v =
      record { ticket = None; holds = false; seen = v.seen ++ added; beside = v.beside; mine = with_gains added v.mine }
