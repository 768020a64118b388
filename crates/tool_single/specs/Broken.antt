-- What is told where the store isn't opened for its journal, by the line that refuses it. (This project's own.)
use Rattle.std.specs.Prelude.{◌≡◌, ℕ, List}
use Rattle.all_formats.specs.Meanings as all
use Rattle.kdb_outside.specs.SinkChange.{SinkChange as Change}
use Rattle.kdb_outside.specs.declared.kinds.Kind.{Kind}
use Rattle.model_maps.specs.KeyMap.{KeyMap}
use Rattle.model_names.specs.Name.{Name}
use Rattle.mounted_files.specs.Files.{Holds, IsCause}
use Rattle.mounted_files.specs.Faults.{fault_of}
use Rattle.mounted_files.specs.declared.causes.Cause.{Cause}
use Rattle.tool_commands.specs.Report.{IsAnswered, Report, warned}
use Rattle.tool_words.specs.Request.{Request, Refuses, Bars, Asks, Imports}
use Rattle.tool_single.specs.Answers.{line_of_get}
use Rattle.tool_single.specs.Input.{taken}
use Rattle.tool_single.specs.Outcome.{Gives}

-- of an import: an input that holds no keys is refused as a file is, before the journal is looked at, and else the
-- journal is
pub data ToldOfImport (name : Name) (kind : Kind) (input line : List ℕ) (report : Report) : Type 0 where
  Held : (keys : KeyMap) → Holds all.Reads name kind (taken input) keys → report ≡ warned 5 line
      → ToldOfImport name kind input line report
  Bad : (cause : Cause) → IsCause all.Reads all.IsBadAt name kind (taken input) cause
      → report ≡ warned 5 (line_of_get (fault_of name cause)) → ToldOfImport name kind input line report

-- of a request: the journal, by this line, to each that asks the store for something
abbrev pub TellsOfJournal : Request → (input line : List ℕ) → Report → Type 0
TellsOfJournal (Refuses status text) input line report = Unit {0}
TellsOfJournal (Bars name) input line report = Unit {0}
TellsOfJournal (Asks question) input line report = report ≡ warned 5 line
TellsOfJournal (Imports name kind) input line report = ToldOfImport name kind input line report

-- a run that ends neither in want of memory nor in a fault ends so, where the journal is refused
abbrev pub EndsByJournal : Request → (input line : List ℕ) → ℕ → Change → Change → Type 0
EndsByJournal asked input line status out err =
    IsAnswered status → (report : Report) × TellsOfJournal asked input line report × Gives report status out err
