-- What is known of a report whatever a disk tells. (This project's own.)
use Rattle.std.specs.Prelude.{◌≡◌, ℕ, List, [], ◌∷◌}
use Rattle.all_formats.specs.Meanings as all
use Rattle.kdb_outside.specs.declared.sources.Source.{Ghosts}
use Rattle.model_maps.specs.KeyMap.{KeyMap}
use Rattle.mounted_files.specs.Files.{Holds}
use Rattle.tool_words.specs.Request.{Question, Mounts, FileOf, TextOf, ViolationsOf, On, Request, Refuses, Bars, Asks, Imports}
use Rattle.tool_words.specs.Lines.{not_writable}
use Rattle.tool_commands.specs.Commands.{row_of}
use Rattle.tool_commands.specs.Report.{IsEnd, Report, warned}
use Rattle.tool_single.specs.Input.{IsInput, LeavesInput, taken}

-- the statuses that a question to the store may end with, beside 0 and 5
abbrev pub own_statuses : Question → List ℕ
own_statuses Mounts = []
own_statuses (FileOf name) = []
own_statuses (TextOf name kind) = []
own_statuses (ViolationsOf name) = 13 ∷ []
own_statuses (On name action) = (row_of name action).statuses

-- a question to the store ends so
abbrev pub IsStatusOf : Question → ℕ → Type 0
IsStatusOf question status = IsEnd (own_statuses question) status

-- a request with the bytes of its input asks the store for something: an import does where they hold keys
abbrev pub AsksStoreWith : Request → List ℕ → Type 0
AsksStoreWith (Refuses status text) input = ⊥
AsksStoreWith (Bars name) input = ⊥
AsksStoreWith (Asks question) input = Unit {0}
AsksStoreWith (Imports name kind) input = (keys : KeyMap) × Holds all.Reads name kind (taken input) keys

-- a request came to ask the store: it does with the input that it is given, which was taken whole before
pub record HasAsked {S : Type 0} (g : Ghosts S) (asked : Request) (before now : S) : Type 0 where
  pub asks : (input : List ℕ) → IsInput asked (g.left before) input → AsksStoreWith asked input
  pub whole : LeavesInput g asked (Unit {0}) before now

-- of a request: all that is told where it asks the store for nothing, and else a status
abbrev pub ReportsUntold : Request → Report → Type 0
ReportsUntold (Refuses status text) report = report ≡ warned status text
ReportsUntold (Bars name) report = report ≡ warned 2 (not_writable name)
ReportsUntold (Asks question) report = IsStatusOf question report.status
ReportsUntold (Imports name kind) report = IsEnd [] report.status
