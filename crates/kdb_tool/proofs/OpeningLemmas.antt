-- What is told where the files open no store.
use Rattle.std.proofs.Common.{◌≡◌, ◌≢◌, false, List, Option, Some, IfOk, Result, Ok, Err, OnOk, refl, sym, subst}
use Rattle.all_formats.specs.Meanings as all
use Rattle.intent_journal.specs.Opened.{opened_files}
use Rattle.journal_steps.specs.Moments.{LeavesOnly}
use Rattle.intent_journal.specs.Outcomes.{HasOnly}
use Rattle.journal_steps.specs.Outcomes.{SameFiles, IsEither}
use Rattle.journal_codec.specs.declared.files.FileText.{FileText}
use Rattle.kdb_outside.specs.Crashes.{EveryImage}
use Rattle.kdb_outside.specs.Faults.{HasRisen}
use Rattle.kdb_outside.specs.Frames.{OnlyReads}
use Rattle.kdb_outside.specs.Images.{Image}
use Rattle.kdb_outside.specs.declared.disks.Disk.{Ghosts}
use Rattle.mount_table.specs.Table.{own_mount}
use Rattle.mounted_files.specs.declared.refusals.OpenRefusal.TheVariants as refusal
use Rattle.store_core.specs.Faults.{RefusesStore}
use Rattle.store_core.specs.Opened.{may_be_of_journal}
use Rattle.store_core.specs.declared.faults.OpenFault.{OpenFault}
use Rattle.store_core.specs.declared.faults.OpenFault.TheVariants as fault
use Rattle.kdb_tool.specs.Unplayed.{IsUnopened}
use Rattle.tool_commands.specs.Report.{Report, warned}
use Rattle.tool_commands.specs.StepView.{report_of}
use Rattle.tool_commands.specs.declared.reports.Report as code
use Rattle.tool_single.proofs.OpeningLemmas.{IsOfFiles, LeavesCalm, read_fault}
use Rattle.tool_single.proofs.ServeLemmas.{refused_served}
use Rattle.tool_single.specs.Answer.{refused, tells}
use Rattle.tool_single.specs.Crashing.{HasNothingToWrite}
use Rattle.tool_single.specs.Lines.{line_of_store}
use Rattle.tool_single.specs.Serving.{Seeking, Serve}
use Rattle.tool_single.specs.declared.answers.Stop.{Stop}
use Rattle.tool_single.specs.declared.answers.Stop.TheVariants as stops

unopened : (bytes_of : Image) (why : OpenFault) → RefusesStore all.Reads all.IsBadAt (bytes_of own_mount.file) why
    → may_be_of_journal (Some why) ≡ false → IsUnopened bytes_of (refused 5 (line_of_store why))
unopened bytes_of fault.DiskFault refuses read = absurd cc
unopened bytes_of (fault.BadJournal at) refuses read = absurd cc
unopened bytes_of (fault.UnknownVersion version) refuses read = absurd cc
unopened bytes_of (fault.BadTable why) refuses read =
    record { refusal = refusal.BadTable why; opens = refuses; told = (λ e. absurd cc, refl) }
unopened bytes_of (fault.TooLong bytes) refuses read =
    record { refusal = refusal.TooLong bytes; opens = refuses; told = (λ e. absurd cc, refl) }
unopened bytes_of (fault.BadFile line) refuses read =
    record { refusal = refusal.BadFile line; opens = refuses; told = (λ e. absurd cc, refl) }
unopened bytes_of fault.Memory refuses read = absurd cc

pub unopened-serve : {D : Type 0} (g : Ghosts D) (disk end : D) (files : Image) (doubt : Option (List FileText))
    (why : OpenFault) (result : Result code.Report Stop)
    → IfOk result (λ report. report_of report ≡ warned 5 (line_of_store why))
    → OnOk result ((why ≢ fault.DiskFault) × (why ≢ fault.Memory)) → result ≢ Err stops.ReadFault
    → LeavesOnly g disk end (HasOnly (IsEither files doubt))
    → EveryImage (g.may_leave end) (HasOnly (IsEither files doubt))
    → (may_be_of_journal (Some why) ≡ false → SameFiles (g.seen end) (opened_files (g.seen disk)))
    → (HasNothingToWrite (g.seen disk) → OnlyReads g disk end)
    → RefusesStore all.Reads all.IsBadAt (opened_files (g.seen disk) own_mount.file) why → IsOfFiles why
    → (¬ HasRisen (g.faults disk) (g.faults end) → LeavesCalm g files doubt disk end)
    → Serve g files doubt (IsUnopened (opened_files (g.seen disk))) result disk end
unopened-serve g disk end files doubt why (Ok report) told own unread meanwhile rests shown alone refuses journal left =
    let opened = opened_files (g.seen disk) in
    let read = read_fault why own.0 own.1 journal in
    refused_served g disk end files doubt (IsUnopened opened) (report_of report) meanwhile rests (shown read) (λ still. (left still).calm)
    (subst (λ (r : Report). IsUnopened opened (tells r)) (sym told) (unopened opened why refuses read))
unopened-serve g disk end files doubt why (Err stops.Memory) told own unread meanwhile rests shown alone refuses journal left =
    record {
      crash = meanwhile;
      untouched = alone;
      shown = λ still. (left still).shown;
      calm = λ still. (left still).calm;
    }
unopened-serve g disk end files doubt why (Err stops.DiskFault) told own unread meanwhile rests shown alone refuses journal left =
    Seeking meanwhile
unopened-serve g disk end files doubt why (Err stops.ReadFault) told own unread meanwhile rests shown alone refuses journal left =
    absurd (unread refl)
