-- What a step on a journal's list makes of that which a crash may leave. This project's own.
use Rattle.std.specs.Prelude.{◌≡◌, ℕ, List, ◌∷◌, ◌++◌, Result, OnOk, OnErr}
use Rattle.kdb_outside.specs.declared.disks.Disk.{Ghosts}
use Rattle.kdb_outside.specs.declared.faults.Failed.{Failed}
use Rattle.kdb_outside.specs.Faults.{HasCause}
use Rattle.kdb_outside.specs.Frames.{GoesOn}
use Rattle.kdb_outside.specs.Images.{Image}
use Rattle.journal_codec.specs.Entry.{journal2_name}
use Rattle.journal_steps.specs.Moments.{LeavesOnly}
use Rattle.intent_journal.specs.Journal.{JournalValue}
use Rattle.intent_journal.specs.Outcomes.{HasOnly}

-- what a crash may leave behind a step that went well, and behind one that failed; and each image that one left since
-- the step began has only outcomes with this property
pub record Passes {D : Type 0} (g : Ghosts D) (old new : D) (result : Result Unit Failed) (Done Undone : (List ℕ → List ℕ → Type 0) → Type 0) (Property : Image → Type 0) : Type 0 where
  pub ok : OnOk result (Done (g.may_leave new))
  pub err : OnErr result (Undone (g.may_leave new))
  pub any_moment : LeavesOnly g old new (HasOnly Property)

-- a journal begins with the open header gate and with these bytes
abbrev pub HasOpened : List ℕ → (List ℕ → List ℕ → Type 0) → Type 0
HasOpened header leaves = (c : List ℕ) → leaves journal2_name c → (rest : List ℕ) × (c ≡ 1 ∷ (header ++ rest))

-- behind a step the disk went on, and where the step failed the disk did
pub record IsStep {D : Type 0} (g : Ghosts D) (old new : JournalValue D) (result : Result Unit Failed) : Type 0 where
  pub recovered : new.recovered ≡ old.recovered
  pub goes : GoesOn g old.disk new.disk
  pub cause : HasCause (g.faults old.disk) (g.faults new.disk) result
