-- What is told where the store isn't opened for its journal.
use Rattle.std.specs.Prelude.{◌≡◌, ◌≢◌, ℕ, List, Result, Ok, Err, IfOk, OnOk}
use Rattle.std.proofs.Common.{refl, ap, ◌∙◌}
use Rattle.all_formats.specs.Meanings as all
use Rattle.kdb_outside.specs.SinkChange.{SinkChange as Change}
use Rattle.kdb_outside.specs.declared.kinds.Kind.{Kind}
use Rattle.model_maps.specs.KeyMap.{KeyMap}
use Rattle.model_names.specs.Name.{Name}
use Rattle.mounted_files.specs.Files.{Holds}
use Rattle.store_core.specs.Faults.{RefusesBroken, RefusesUnknown}
use Rattle.store_core.specs.declared.faults.OpenFault.{OpenFault}
use Rattle.store_core.specs.declared.faults.OpenFault.TheVariants as fault
use Rattle.tool_commands.specs.Lines.{read_fault}
use Rattle.store_lines.specs.Lines.{bad_journal, disk_fault, out_of_memory, unknown_journal}
use Rattle.tool_commands.specs.Report.{warned}
use Rattle.tool_commands.specs.StepView.{report_of}
use Rattle.tool_commands.specs.declared.reports.Report as code
use Rattle.tool_words.specs.Request.{Request}
use Rattle.tool_single.specs.Broken.{Held, EndsByJournal, TellsOfJournal, ToldOfImport}
use Rattle.tool_single.specs.Ending.{ending}
use Rattle.tool_single.specs.Input.{taken}
use Rattle.tool_single.specs.Lines.{line_of_store}
use Rattle.tool_single.specs.Outcome.{Delivers}
use Rattle.tool_single.specs.declared.answers.Stop.{Stop}
use Rattle.tool_single.specs.declared.answers.Stop.TheVariants as stops
use Rattle.tool_single.proofs.EndLemmas.{given}

-- ---- why a store wasn't opened, where that was told

abbrev pub WasTold : OpenFault → Type 0
WasTold why = (why ≢ fault.DiskFault) × (why ≢ fault.Memory)

-- for an entry or a head that isn't whole
pub line_of_broken : (at : ℕ) (why : OpenFault) → WasTold why → RefusesBroken at why
    → line_of_store why ≡ bad_journal at
line_of_broken at fault.DiskFault told refuses = absurd (told.0 refl)
line_of_broken at (fault.BadJournal place) told refuses = ap bad_journal refuses
line_of_broken at (fault.UnknownVersion version) told refuses = absurd refuses
line_of_broken at (fault.BadTable why) told refuses = absurd refuses
line_of_broken at (fault.TooLong bytes) told refuses = absurd refuses
line_of_broken at (fault.BadFile line) told refuses = absurd refuses
line_of_broken at fault.Memory told refuses = absurd (told.1 refl)

-- for a version
pub line_of_unknown : (version : ℕ) (why : OpenFault) → WasTold why → RefusesUnknown version why
    → line_of_store why ≡ unknown_journal version
line_of_unknown version fault.DiskFault told refuses = absurd (told.0 refl)
line_of_unknown version (fault.BadJournal place) told refuses = absurd refuses
line_of_unknown version (fault.UnknownVersion found) told refuses = ap unknown_journal refuses
line_of_unknown version (fault.BadTable why) told refuses = absurd refuses
line_of_unknown version (fault.TooLong bytes) told refuses = absurd refuses
line_of_unknown version (fault.BadFile line) told refuses = absurd refuses
line_of_unknown version fault.Memory told refuses = absurd (told.1 refl)

-- what is told then
pub told_by_line : (line : List ℕ) (why : OpenFault) (result : Result code.Report Stop)
    → IfOk result (λ report. report_of report ≡ warned 5 (line_of_store why)) → OnOk result (WasTold why)
    → (WasTold why → line_of_store why ≡ line) → IfOk result (λ report. report_of report ≡ warned 5 line)
told_by_line line why (Ok report) told own is = told ∙ ap (warned 5) (is own)
told_by_line line why (Err stop) told own is = tt

-- ---- to a request

-- an import of what is held asks for the journal
pub told_of_held : (name : Name) (kind : Kind) (input line : List ℕ) (keys : KeyMap) (result : Result code.Report Stop)
    → Holds all.Reads name kind (taken input) keys
    → IfOk result (λ report. report_of report ≡ warned 5 line)
    → IfOk result (λ report. ToldOfImport name kind input line (report_of report))
told_of_held name kind input line keys (Ok report) holds told = Held keys holds told
told_of_held name kind input line keys (Err stop) holds told = tt

-- what becomes of it on out and err
pub ends_by_journal : (result : Result code.Report Stop) (asked : Request) (input line : List ℕ) (status : ℕ)
    (out err : Change) → IfOk result (λ report. TellsOfJournal asked input line (report_of report))
    → Delivers (ending result) status out err → EndsByJournal asked input line status out err
ends_by_journal (Ok report) asked input line status out err tells delivers =
    λ answered. (report_of report, tells, given (report_of report) status out err delivers answered)
ends_by_journal (Err stops.Memory) asked input line status out err tells delivers =
    λ answered. absurd (answered.0 (given (warned 70 out_of_memory) status out err delivers answered).status_is)
ends_by_journal (Err stops.DiskFault) asked input line status out err tells delivers =
    λ answered. absurd (answered.1 (given (warned 74 disk_fault) status out err delivers answered).status_is)
ends_by_journal (Err stops.ReadFault) asked input line status out err tells delivers =
    λ answered. absurd (answered.1 (given (warned 74 read_fault) status out err delivers answered).status_is)
