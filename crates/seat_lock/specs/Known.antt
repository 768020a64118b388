-- What contracts see of a lock and of a seat.
use Rattle.std.specs.Prelude.{ℕ, List, refl}
use Rattle.std.specs.Coded.{Coded, code_by, coded×, coded_ℕ, coded_list}
use Rattle.atomic_table.specs.Seated.{TableId, table_id_coded}

-- which lock a seat belongs to, its number, all entries that it has seen, and those that it made
pub record Known (E : Type 0) : Type 0 where
  pub place : TableId
  pub number : ℕ
  pub seen : List E
  pub own : List E

-- which lock it is, how many seats it has, and the entries with which it began
pub record Place (E : Type 0) : Type 0 where
  pub place : TableId
  pub seats : ℕ
  pub start : List E

module _ {E : Type 0} where
  -- the same, by its parts
  abbrev pub knowledge : TableId → ℕ → List E → List E → Known E
  knowledge place number seen own = record { place = place; number = number; seen = seen; own = own }

  -- a lock by its parts
  abbrev pub lock_of : TableId → ℕ → List E → Place E
  lock_of place seats start = record { place = place; seats = seats; start = start }

  -- what a seat is stored as
  abbrev pub known_code : Coded E → Coded (Known E)
  known_code code =
      code_by ((TableId × ℕ) × (List E × List E)) (coded× (coded× table_id_coded coded_ℕ) (coded× (coded_list code) (coded_list code)))
      (λ k. ((k.place, k.number), (k.seen, k.own))) (λ p. knowledge p.0.0 p.0.1 p.1.0 p.1.1) (λ _. refl)

  -- what a lock is stored as
  abbrev pub place_code : Coded E → Coded (Place E)
  place_code code =
      code_by ((TableId × ℕ) × List E) (coded× (coded× table_id_coded coded_ℕ) (coded_list code))
      (λ k. ((k.place, k.seats), k.start)) (λ p. lock_of p.0.0 p.0.1 p.1) (λ _. refl)

-- a seat in its turn: its lock, its number, the entries that it found, those that it made, and the value
pub record Held (E V : Type 0) : Type 0 where
  pub place : TableId
  pub number : ℕ
  pub seen : List E
  pub own : List E
  pub value : V

module _ {E V : Type 0} where
  -- the same, by its parts
  abbrev pub turn_of : TableId → ℕ → List E → List E → V → Held E V
  turn_of place number seen own value = record { place = place; number = number; seen = seen; own = own; value = value }

  -- the turn, with another value
  abbrev pub with_value : Held E V → V → Held E V
  with_value turn value = record turn { value = value }

  -- what a turn is stored as
  abbrev pub held_code : Coded E → Coded V → Coded (Held E V)
  held_code entries values =
      code_by ((Known E) × V) (coded× (known_code entries) values) (λ t. (knowledge t.place t.number t.seen t.own, t.value))
      (λ p. turn_of p.0.place p.0.number p.0.seen p.0.own p.1) (λ _. refl)
