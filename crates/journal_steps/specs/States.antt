-- Which disks were calm to a program whose journal held one entry. This project's own.
use Rattle.std.specs.Prelude.{◌≡◌, ◌⊎◌, ℕ, ◌<◌, ◌≤◌, List, length, drop, Option, Some, None}
use Rattle.kdb_outside.specs.Images.{Image, IsImage, Only}
use Rattle.journal_codec.specs.declared.files.FileText.{FileText}
use Rattle.journal_codec.specs.Entry.{journal_name}
use Rattle.journal_steps.specs.BadJournals.{open_entry}
use Rattle.journal_steps.specs.JournalBytes.{gate, IsOwnFile}
use Rattle.journal_steps.specs.Outcomes.{content_in, HasOutcome, IsEither}
use Rattle.journal_steps.specs.Readings.{IsBroken}

-- the journal's own files are as a crash may leave them
abbrev pub IsOwnImage : (List ℕ → List ℕ → Type 0) → Image → Type 0
IsOwnImage leaves image = (file : List ℕ) → IsOwnFile file → leaves file (image file)

-- nothing is pending but what a journal that was cut off leaves: each outcome is these files, or these with the entry
pub record IsCalm (seen : Image) (leaves : List ℕ → List ℕ → Type 0) (files : Image) (doubt : Option (List FileText)) : Type 0 where
  -- each file is as a read gives it, unless an open entry names it
  pub same : (file : List ℕ) → ¬ IsOwnFile file
      → ((entry : List FileText) → open_entry seen ≡ Some entry → content_in entry file ≡ None)
      → Only (seen file) (leaves file)
  -- the journals that a crash may leave differ in the gate alone, or their gate is closed, or they are short
  pub journal : ((c : List ℕ) → leaves journal_name c → (1 ≤ length c) × (drop 1 c ≡ drop 1 (seen journal_name)))
      ⊎ ((c : List ℕ) → leaves journal_name c → gate c ≡ 0) ⊎ ((c : List ℕ) → leaves journal_name c → length c < 5)
  pub not_broken : (image : Image) → IsOwnImage leaves image → ¬ IsBroken image
  pub outcomes : (image outcome : Image) → IsImage leaves image → HasOutcome image outcome
      → IsEither files doubt outcome
