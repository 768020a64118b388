-- What the recovery of open entries of one of the journal's own files makes of a disk, and what a crash may leave
-- meanwhile. This project's own.
use Rattle.std.specs.Prelude.{◌≡◌, ◌≢◌, ◌⊎◌, ℕ, List, [], ◌∷◌, Some, None, Result, OnOk}
use Rattle.kdb_outside.specs.declared.disks.Disk.{Ghosts}
use Rattle.kdb_outside.specs.declared.faults.Failed.{Failed}
use Rattle.kdb_outside.specs.Files.{written}
use Rattle.kdb_outside.specs.Images.{Image, IsImage, Only, IsTornWrite, KeepsImagesOf}
use Rattle.journal_codec.specs.declared.files.FileText.{FileText}
use Rattle.journal_codec.specs.Entry.{journal_name}
use Rattle.journal_lists.specs.Lists.{as_one}
use Rattle.journal_steps.specs.JournalBytes.{IsShut}
use Rattle.journal_steps.specs.Moments.{AddsOnly}
use Rattle.journal_steps.specs.Outcomes.{content_in}
use Rattle.intent_journal.specs.States.{HasBrought}

-- another file that no entry of the list names
abbrev pub IsElse : List ℕ → List (List FileText) → List ℕ → Type 0
IsElse file list other = (other ≢ file) × (content_in (as_one list) other ≡ None)

-- the entries are on their way into their files: the file that they stand in is as it was read, and others are as a
-- crash might have left them
pub record IsBringing (seen : Image) (leaves : List ℕ → List ℕ → Type 0) (file : List ℕ) (list : List (List FileText)) (image : Image) : Type 0 where
  pub this : image file ≡ seen file
  pub others : (other : List ℕ) → IsElse file list other → leaves other (image other)

-- the entries are in their files, and the file that they stood in has become so
pub record IsBehindBringing (leaves : List ℕ → List ℕ → Type 0) (file : List ℕ) (list : List (List FileText)) (Become : List ℕ → Type 0) (image : Image) : Type 0 where
  pub this : Become (image file)
  pub named : (other bytes : List ℕ) → content_in (as_one list) other ≡ Some bytes → image other ≡ bytes
  pub others : (other : List ℕ) → IsElse file list other → leaves other (image other)

-- what a crash may leave while entries are recovered whose gate stands at this place
abbrev pub IsRecovering : Image → (List ℕ → List ℕ → Type 0) → List ℕ → ℕ → List (List FileText) → Image → Type 0
IsRecovering seen leaves file at list image =
    IsImage leaves image ⊎ IsBringing seen leaves file list image ⊎ IsBehindBringing leaves file list (IsTornWrite at (0 ∷ []) (seen file)) image

-- other files that the list doesn't name are left alone
pub record KeepsElse {D : Type 0} (g : Ghosts D) (old new : D) (file : List ℕ) (list : List (List FileText)) : Type 0 where
  pub images : (other : List ℕ) → IsElse file list other → KeepsImagesOf other (g.may_leave old) (g.may_leave new)
  pub seen : (other : List ℕ) → IsElse file list other → g.seen new other ≡ g.seen old other

-- open entries of a file came into theirs, and the gate before them, at this place, was closed
pub record Recovers {D : Type 0} (g : Ghosts D) (old new : D) (result : Result Unit Failed) (file : List ℕ) (at : ℕ) (list : List (List FileText)) : Type 0 where
  pub closed : OnOk result (Only (written (g.seen old file) at (0 ∷ [])) (g.may_leave new file))
  pub brought : OnOk result (HasBrought (g.may_leave new) (as_one list))
  pub kept : KeepsElse g old new file list
  pub time : AddsOnly g old new (IsRecovering (g.seen old) (g.may_leave old) file at list)

-- what a crash may leave while the former journal is retired
abbrev pub IsRetiring : Image → (List ℕ → List ℕ → Type 0) → List (List FileText) → Image → Type 0
IsRetiring seen leaves list image =
    IsRecovering seen leaves journal_name 0 list image ⊎ IsBehindBringing leaves journal_name list IsShut image

-- open entries of the former journal came into their files, and it was cut to its closed gate
pub record Retires {D : Type 0} (g : Ghosts D) (old new : D) (result : Result Unit Failed) (list : List (List FileText)) : Type 0 where
  pub closed : OnOk result (Only (0 ∷ []) (g.may_leave new journal_name))
  pub brought : OnOk result (HasBrought (g.may_leave new) (as_one list))
  pub kept : KeepsElse g old new journal_name list
  pub time : AddsOnly g old new (IsRetiring (g.seen old) (g.may_leave old) list)
