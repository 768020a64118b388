-- What a command answers: what it tells, and the files that get other bytes. (This project's own.)
use Rattle.std.specs.Prelude.{ℕ, List, [], map as over}
use Rattle.journal_steps.specs.Outcomes.{with_entry}
use Rattle.journal_codec.specs.declared.files.FileText.{FileText}
use Rattle.kdb_outside.specs.Images.{Image}
use Rattle.model_files.specs.Texts.{as_file}
use Rattle.tool_commands.specs.Report.{Report, told, warned}

-- files by their names, with the bytes that they get
abbrev pub Texts : Type 0
Texts = List (List ℕ × List ℕ)

-- what it tells, and what it stores
pub record Answer : Type 0 where
  pub report : Report
  pub stored : Texts

-- it tells this and changes no file
abbrev pub tells : Report → Answer
tells report = record { report = report; stored = [] }

-- the command was done, put this on out, and changed no file
abbrev pub done : List ℕ → Answer
done out = tells (told out)

-- the command was done, put this on out, and these files get these bytes
abbrev pub stores : Texts → List ℕ → Answer
stores texts out = record { report = told out; stored = texts }

-- the command was refused and changed no file
abbrev pub refused : ℕ → List ℕ → Answer
refused status text = tells (warned status text)

-- what is stored, as the one entry of the journal
abbrev pub entry_of : Texts → List FileText
entry_of texts = over as_file texts

-- the files behind a command: those that are stored have their bytes, and all others are as they were
abbrev pub with_stored : Texts → Image → Image
with_stored texts files = with_entry files (entry_of texts)
