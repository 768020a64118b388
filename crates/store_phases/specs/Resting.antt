-- What is known of a journal and its disk between the phases of a commit. This project's own.
use Rattle.std.specs.Prelude.{◌≡◌, ℕ, List, true, Option}
use Rattle.kdb_outside.specs.declared.disks.Disk.{Ghosts}
use Rattle.kdb_outside.specs.Images.{Image}
use Rattle.journal_codec.specs.declared.files.FileText.{FileText}
use Rattle.intent_journal.specs.Journal.{JournalValue}
use Rattle.intent_journal.specs.States.{RestsAs}
use Rattle.journal_lists.specs.Heads.{front_size}
use Rattle.journal_steps.specs.Outcomes.{with_entries}

-- the disk tells, and a crash leaves these files, or these with the doubt, where a gate is in doubt: they are the files
-- from before the entries of the list, with these entries; and the head of the journal has these names, where it is
-- there
pub record IsResting {D : Type 0} (g : Ghosts D) (journal : JournalValue D) (names : List (List ℕ)) (files : Image) (doubt : Option (List FileText)) : Type 0 where
  pub tells : g.tells journal.disk ≡ true
  pub before : Image
  pub with_list : files ≡ with_entries before journal.list
  pub start : journal.headed ≡ true → journal.start ≡ front_size names
  pub rests : RestsAs journal.headed journal.in_doubt (g.may_leave journal.disk) names before journal.list doubt

-- the disk is as a journal at rest leaves it, with these files and this doubt
pub record RestsOn {D : Type 0} (g : Ghosts D) (disk : D) (files : Image) (doubt : Option (List FileText)) : Type 0 where
  pub names : List (List ℕ)
  pub journal : JournalValue D
  pub over : journal.disk ≡ disk
  pub rests : IsResting g journal names files doubt
