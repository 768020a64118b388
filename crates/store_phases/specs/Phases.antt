-- What a phase of a commit keeps. This project's own.
use Rattle.std.specs.Prelude.{◌≡◌, ℕ, true, List, Option, Some, None, Result}
use Rattle.kdb_outside.specs.declared.disks.Disk.{Ghosts}
use Rattle.kdb_outside.specs.declared.faults.Failed.{Failed}
use Rattle.kdb_outside.specs.Faults.{HasCause}
use Rattle.kdb_outside.specs.Frames.{GoesOn}
use Rattle.kdb_outside.specs.Images.{Image}
use Rattle.journal_codec.specs.declared.files.FileText.{FileText}
use Rattle.journal_codec.specs.Entry.{IsEntry}
use Rattle.journal_codec.specs.Header.{IsHeader, header_bytes}
use Rattle.journal_codec.specs.Listed.{are_listed}
use Rattle.journal_steps.specs.Moments.{LeavesOnly}
use Rattle.journal_steps.specs.Outcomes.{with_entry, IsEither}
use Rattle.intent_journal.specs.Journal.{JournalValue}
use Rattle.intent_journal.specs.Outcomes.{HasOnly}
use Rattle.intent_journal.specs.Steps.{Passes}
use Rattle.store_phases.specs.Resting.{IsResting}

-- the disk goes on, and where the phase failed the disk did
pub record IsPhase {D : Type 0} (g : Ghosts D) (old new : JournalValue D) (result : Result Unit Failed) : Type 0 where
  pub recovered : new.recovered ≡ old.recovered
  pub goes : GoesOn g old.disk new.disk
  pub cause : HasCause (g.faults old.disk) (g.faults new.disk) result

-- whether the phase went well or not, the journal is at rest behind it with these files and this doubt, and no crash
-- amid it leaves others
pub record KeepsRest {D : Type 0} (g : Ghosts D) (old new : JournalValue D) (names : List (List ℕ)) (files : Image) (doubt : Option (List FileText)) : Type 0 where
  pub rests : IsResting g new names files doubt
  pub any_moment : LeavesOnly g old.disk new.disk (HasOnly (IsEither files doubt))

-- a journal at rest stays so, whichever names, files and doubt it has
abbrev pub StaysAtRest : {D : Type 0} → Ghosts D → JournalValue D → JournalValue D → Type 0
StaysAtRest g old new =
    (names : List (List ℕ)) (files : Image) (doubt : Option (List FileText)) → IsResting g old names files doubt → KeepsRest g old new names files doubt

-- and behind a phase that puts the head where there is none: nothing is in doubt then but the header gate
abbrev pub RestsBehindHead : {D : Type 0} → Ghosts D → JournalValue D → JournalValue D → List ℕ → Type 0
RestsBehindHead g old new header =
    (names : List (List ℕ)) (files : Image) (doubt : Option (List FileText)) → IsResting g old names files doubt → header ≡ header_bytes names → IsHeader names
    → KeepsRest g old new names files None

-- an entry that the journal of a run may hold: each of its files is named by the head
pub record IsOfRun (names : List (List ℕ)) (files : List FileText) : Type 0 where
  pub header : IsHeader names
  pub entry : IsEntry files
  pub named : are_listed names files ≡ true

-- the entry came behind the list, or is in doubt
abbrev pub BeginsEntry : {D : Type 0} → Ghosts D → JournalValue D → JournalValue D → Result Unit Failed → List FileText → Type 0
BeginsEntry g old new result files =
    (names : List (List ℕ)) (before : Image) (doubt : Option (List FileText)) → IsResting g old names before doubt → IsOfRun names files
    → Passes g old.disk new.disk result (λ leaves. IsResting g new names (with_entry before files) None) (λ leaves. IsResting g new names before (Some files))
    (IsEither before (Some files))

-- a journal is at rest, and the header and the entry are those of one run
abbrev pub WhereAtRest : {D : Type 0} → Ghosts D → JournalValue D → List ℕ → List FileText → (List (List ℕ) → Image → Option (List FileText) → Type 0) → Type 0
WhereAtRest g journal header files P =
    (names : List (List ℕ)) (before : Image) (doubt : Option (List FileText)) → IsResting g journal names before doubt → header ≡ header_bytes names → IsOfRun names files
    → P names before doubt
