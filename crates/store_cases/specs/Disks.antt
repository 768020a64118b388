-- Which disks in memory a store may be opened on. (This project's own.)
use Rattle.std.specs.Prelude.{ℕ, List, Option}
use Rattle.disk_memory.specs.DiskState.{DiskState, seen_of, left_of}
use Rattle.intent_journal.specs.Outcomes.{HasOnly}
use Rattle.intent_journal.specs.States.{IsCalm}
use Rattle.journal_codec.specs.declared.files.FileText.{FileText}
use Rattle.journal_steps.specs.Outcomes.{IsEither}
use Rattle.kdb_outside.specs.Images.{Image, IsImage, Only}

-- a crash leaves just what is read
abbrev pub IsAlone : DiskState → Type 0
IsAlone disk = (file : List ℕ) → Only (seen_of disk file) (left_of disk file)

-- a calm disk
abbrev pub IsCalmDisk : DiskState → Type 0
IsCalmDisk disk = (files : Image) × (doubt : Option (List FileText)) × IsCalm (seen_of disk) (left_of disk) files doubt

-- each crash leaves an image that stands for some files, or for these with one entry
abbrev pub CrashesCalm : DiskState → Type 0
CrashesCalm disk =
    (image : Image) → IsImage (left_of disk) image → (files : Image) × (doubt : Option (List FileText)) × HasOnly (IsEither files doubt) image
