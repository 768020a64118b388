-- A reader or a writer of the system behind a count of its faults. This project's own.
use Rattle.std.specs.Prelude.{◌≡◌, ℕ, ◌≤◌, List, length, take, Option, Result, Ok, Err}
use Rattle.std.specs.Io.KnownBytes.{Appends}
use Rattle.kdb_outside.specs.Calls.{next_count}
use Rattle.kdb_outside.specs.declared.faults.Failed.{Failed}

-- what stands behind the edge, and how often it has failed
pub record Edge (X : Type 0) : Type 0 where
  pub inner : X
  pub faults : ℕ

-- a call counts one fault if it fails, and none if it doesn't
abbrev pub CountsFault : {X : Type 0} → ℕ → ℕ → Result X Failed → Type 0
CountsFault before now (Ok x) = now ≡ before
CountsFault before now (Err e) = now ≡ next_count before

-- a writer that held these bytes, where they are known, took a front of the piece
pub record TakesFront (before now : Option (List ℕ)) (piece : List ℕ) : Type 0 where
  pub count : ℕ
  pub within : count ≤ length piece
  pub is : Appends before now (take count piece)
