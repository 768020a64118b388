-- What a crash may leave of the files of a store while a command goes on, and behind it. (This project's own. After
-- crash refinement: a crash leaves what an acknowledged command stored whole, and what an unfinished one stores whole
-- or absent.)
use Rattle.std.specs.Prelude.{◌≡◌, ◌≢◌, ◌⊎◌, ℕ, List, [], ◌∷◌, Option, Some, None}
use Rattle.intent_journal.specs.Opened.{open_list, opened_files, HasNoFormer}
use Rattle.intent_journal.specs.Journal.{JournalValue}
use Rattle.intent_journal.specs.Outcomes.{HasOnly}
use Rattle.journal_steps.specs.Outcomes.{SameFiles, IsEither, IsOutcome}
use Rattle.intent_journal.specs.States.{IsCalm, IsSettled}
use Rattle.journal_codec.specs.declared.files.FileText.{FileText}
use Rattle.kdb_outside.specs.Faults.{HasRisen}
use Rattle.kdb_outside.specs.Frames.{GoesOn}
use Rattle.kdb_outside.specs.Images.{Image}
use Rattle.kdb_outside.specs.declared.disks.Disk.{Ghosts}
use Rattle.store_phases.specs.Resting.{IsResting, RestsOn}
use Rattle.tool_single.specs.Answer.{Texts, entry_of, with_stored}

-- the opening of a disk that is read so has nothing to write: no entry is open, and there is no former journal
pub record HasNothingToWrite (seen : Image) : Type 0 where
  pub none : open_list seen ≡ []
  pub no_former : HasNoFormer seen

-- amid a command, on files that were found with a doubt and that its opening left so: the files as they were found, or
-- those of the opening without or with all that is stored. Nothing is stored where a command stores nothing
abbrev pub MayBeLeft : Image → Option (List FileText) → Image → Texts → Image → Type 0
MayBeLeft files doubt opened [] image = HasOnly (IsEither files doubt) image
MayBeLeft files doubt opened (text ∷ texts) image =
    HasOnly (IsEither files doubt) image ⊎ HasOnly (IsEither opened (Some (entry_of (text ∷ texts)))) image

-- behind a command that gave its answer: all that it stored is there, and where it stored nothing the files are as they
-- were found
abbrev pub MayRemain : Image → Option (List FileText) → Image → Texts → Image → Type 0
MayRemain files doubt opened [] image = HasOnly (IsEither files doubt) image
MayRemain files doubt opened (text ∷ texts) image = HasOnly (IsOutcome (with_stored (text ∷ texts) opened)) image

-- the files show what was stored, and are else as the opening left them; a command that stores nothing may leave the
-- files alone
pub data Shows (stored : Texts) (opened before after : Image) : Type 0 where
  Alone : stored ≡ [] → SameFiles after before → Shows stored opened before after
  Stored : SameFiles after (with_stored stored opened) → Shows stored opened before after

-- behind a command whose disk didn't fail it is calm, with the files that the command left: what is in doubt then was
-- so before, and nothing is where something was stored; and the next opening finds these files
pub record StaysCalm {D : Type 0} (g : Ghosts D) (files : Image) (doubt : Option (List FileText)) (stored : Texts) (disk end : D) : Type 0 where
  pub rest : Option (List FileText)
  pub calm : IsCalm (g.seen end) (g.may_leave end) (with_stored stored (opened_files (g.seen disk))) rest
  pub none : stored ≢ [] → rest ≡ None
  pub within : stored ≡ [] → (o : Image) → IsEither (opened_files (g.seen disk)) rest o → IsEither files doubt o
  pub found : SameFiles (opened_files (g.seen end)) (with_stored stored (opened_files (g.seen disk)))

-- a disk failed, and no commit was made: it was left with the files of the opening, and at most one entry in doubt, in
-- a journal that only the close behind it may have touched, so that a read and every crash give these files where the
-- disk didn't fail once more; and where it did, its journal is at rest with these files still
pub record IsUncommitted {D : Type 0} (g : Ghosts D) (disk end : D) (opened : Image) : Type 0 where
  pub names : List (List ℕ)
  pub journal : JournalValue D
  pub doubt : Option (List FileText)
  pub rose : HasRisen (g.faults disk) (g.faults journal.disk)
  pub rests : IsResting g journal names opened doubt
  pub goes : GoesOn g journal.disk end
  pub shown : ¬ HasRisen (g.faults journal.disk) (g.faults end) → SameFiles (g.seen end) opened
  pub settled : ¬ HasRisen (g.faults journal.disk) (g.faults end) → IsSettled (g.may_leave end) opened
  pub left : RestsOn g end opened doubt
