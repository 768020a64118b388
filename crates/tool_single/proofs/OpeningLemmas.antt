-- What is told of a store that isn't opened, and what is known of one that is.
use Rattle.std.proofs.Common.{◌≡◌, ◌≢◌, inl, inr, ℕ, true, false, List, [], ◌∷◌, Option, Some, None, IfOk, Result, Ok, Err, OnOk, refl, sym, ap, subst, ◌∙◌}
use Rattle.all_formats.specs.Meanings as all
use Rattle.intent_journal.specs.Opened.{MayBeLeft, open_list, opened_files}
use Rattle.intent_journal.specs.Journal.{JournalValue}
use Rattle.intent_journal.proofs.Opened.{calm_files}
use Rattle.journal_steps.specs.Moments.{LeavesOnly}
use Rattle.intent_journal.specs.Outcomes.{HasOnly}
use Rattle.journal_steps.specs.Outcomes.{SameFiles, IsEither}
use Rattle.intent_journal.specs.States.{IsCalm}
use Rattle.journal_codec.specs.declared.files.FileText.{FileText}
use Rattle.kdb_outside.specs.Crashes.{EveryImage}
use Rattle.kdb_outside.specs.Faults.{HasRisen}
use Rattle.kdb_outside.specs.Frames.{OnlyReads}
use Rattle.kdb_outside.specs.Images.{Image}
use Rattle.kdb_outside.specs.declared.disks.Disk.{Ghosts}
use Rattle.model_crashes.specs.Runs.{new_run}
use Rattle.mount_table.specs.Table.{own_mount}
use Rattle.mounted_files.specs.declared.refusals.OpenRefusal.TheVariants as refusal
use Rattle.store_core.specs.Faults.{RefusesStore}
use Rattle.store_core.specs.Opened.{IsLeft, StillFound, StillRead, may_be_of_journal}
use Rattle.store_core.specs.declared.faults.OpenFault.{OpenFault}
use Rattle.store_core.specs.declared.faults.OpenFault.TheVariants as fault
use Rattle.store_phases.specs.Stores.{IsStore}
use Rattle.tool_commands.specs.Report.{Report, warned}
use Rattle.tool_commands.specs.StepView.{report_of}
use Rattle.tool_commands.specs.declared.reports.Report as code
use Rattle.tool_words.specs.Request.{Question}
use Rattle.tool_single.specs.Answer.{refused, tells}
use Rattle.tool_single.specs.Answers.{AnswersOver}
use Rattle.tool_single.specs.Crashing.{Alone, HasNothingToWrite, Shows, StaysCalm, Stored}
use Rattle.tool_single.specs.Lines.{line_of_store}
use Rattle.tool_single.specs.Serving.{MayRefuse, Seeking, Serve}
use Rattle.tool_single.specs.declared.answers.Stop.{Stop}
use Rattle.tool_single.specs.declared.answers.Stop.TheVariants as stops
use Rattle.tool_single.proofs.CalmLemmas.{calm_on, either_none}
use Rattle.tool_single.proofs.ServeLemmas.{HasBegun, read_calm, refused_served}

-- ---- a store that isn't opened

-- a fault is none of the journal
abbrev pub IsOfFiles : OpenFault → Type 0
IsOfFiles why = ((at : ℕ) → why ≡ fault.BadJournal at → ⊥) × ((version : ℕ) → why ≡ fault.UnknownVersion version → ⊥)

-- a fault that was told is none of the disk nor want of memory, and on a calm disk none of the journal
pub read_fault : (why : OpenFault) → why ≢ fault.DiskFault → why ≢ fault.Memory → IsOfFiles why
    → may_be_of_journal (Some why) ≡ false
read_fault fault.DiskFault disk memory journal = absurd (disk refl)
read_fault (fault.BadJournal at) disk memory journal = absurd (journal.0 at refl)
read_fault (fault.UnknownVersion version) disk memory journal = absurd (journal.1 version refl)
read_fault (fault.BadTable why) disk memory journal = refl
read_fault (fault.TooLong bytes) disk memory journal = refl
read_fault (fault.BadFile line) disk memory journal = refl
read_fault fault.Memory disk memory journal = absurd (memory refl)

-- the answer of files that open no store
pub over_refused : (MayRefuse : List ℕ → Type 0) (question : Question) (bytes_of : Image) (why : OpenFault)
    → RefusesStore all.Reads all.IsBadAt (bytes_of own_mount.file) why → may_be_of_journal (Some why) ≡ false
    → AnswersOver MayRefuse question bytes_of (refused 5 (line_of_store why))
over_refused MayRefuse question bytes_of fault.DiskFault refuses read = absurd cc
over_refused MayRefuse question bytes_of (fault.BadJournal at) refuses read = absurd cc
over_refused MayRefuse question bytes_of (fault.UnknownVersion version) refuses read = absurd cc
over_refused MayRefuse question bytes_of (fault.BadTable why) refuses read =
    record { opened = Err (refusal.BadTable why); opens = refuses; answers = (λ e. absurd cc, refl) }
over_refused MayRefuse question bytes_of (fault.TooLong bytes) refuses read =
    record { opened = Err (refusal.TooLong bytes); opens = refuses; answers = (λ e. absurd cc, refl) }
over_refused MayRefuse question bytes_of (fault.BadFile line) refuses read =
    record { opened = Err (refusal.BadFile line); opens = refuses; answers = (λ e. absurd cc, refl) }
over_refused MayRefuse question bytes_of fault.Memory refuses read = absurd cc

-- what such an opening leaves of a calm disk that didn't fail
pub record LeavesCalm {D : Type 0} (g : Ghosts D) (files : Image) (doubt : Option (List FileText)) (disk end : D) : Type 0 where
  pub shown : Shows [] (opened_files (g.seen disk)) (g.seen disk) (g.seen end)
  pub calm : StaysCalm g files doubt [] disk end

pub leaves_calm : {D : Type 0} (g : Ghosts D) (disk end : D) (files : Image) (doubt : Option (List FileText))
    → g.tells disk ≡ true → IsCalm (g.seen disk) (g.may_leave disk) files doubt
    → IsCalm (g.seen end) (g.may_leave end) files doubt → IsLeft g disk end → LeavesCalm g files doubt disk end
leaves_calm g disk end files doubt told calm now (StillRead reads) = record {
  shown = Alone refl (λ file not_own. ap (λ (seen : Image). seen file) (reads.same told));
  calm = read_calm g disk end files doubt told calm reads;
}
leaves_calm g disk end files doubt told calm now (StillFound stays) =
    let opened = opened_files (g.seen disk) in
    let on = calm_on (g.seen end) (g.may_leave end) files doubt opened now (calm_files (g.seen disk) (g.may_leave disk) files doubt calm (g.read_is_image disk told)) in
    record {
      shown = elim stays.shown as (λ x. Shows [] opened (g.seen disk) (g.seen end)) [ inl same ↦ Alone refl same | inr brought ↦ Stored brought ];
      calm = record { rest = on.first; calm = on.calm; none = λ some. absurd (some refl); within = λ none. on.within; found = stays.found };
    }

-- the next opening finds the files that this one left
pub left_found : {D : Type 0} (g : Ghosts D) (disk end : D) → g.tells disk ≡ true → IsLeft g disk end
    → SameFiles (opened_files (g.seen end)) (opened_files (g.seen disk))
left_found g disk end told (StillRead reads) file not_own =
    ap (λ (seen : Image). opened_files seen file) (reads.same told)
left_found g disk end told (StillFound stays) file not_own = stays.found file not_own

-- what is told of a store that isn't opened
pub refused_serve : {D : Type 0} (g : Ghosts D) (disk end : D) (files : Image) (doubt : Option (List FileText))
    (before now : ℕ) (question : Question) (why : OpenFault) (result : Result code.Report Stop)
    → IfOk result (λ report. report_of report ≡ warned 5 (line_of_store why))
    → OnOk result ((why ≢ fault.DiskFault) × (why ≢ fault.Memory)) → result ≢ Err stops.ReadFault
    → LeavesOnly g disk end (HasOnly (IsEither files doubt))
    → EveryImage (g.may_leave end) (HasOnly (IsEither files doubt))
    → (may_be_of_journal (Some why) ≡ false → SameFiles (g.seen end) (opened_files (g.seen disk)))
    → (HasNothingToWrite (g.seen disk) → OnlyReads g disk end)
    → RefusesStore all.Reads all.IsBadAt (opened_files (g.seen disk) own_mount.file) why → IsOfFiles why
    → (¬ HasRisen (g.faults disk) (g.faults end) → LeavesCalm g files doubt disk end)
    → Serve g files doubt (AnswersOver (MayRefuse result before now) question (opened_files (g.seen disk))) result disk end
refused_serve g disk end files doubt before now question why (Ok report) told own unread meanwhile rests shown alone refuses journal left =
    let read = read_fault why own.0 own.1 journal in
    refused_served g disk end files doubt (AnswersOver (λ _. HasRisen before now) question (opened_files (g.seen disk))) (report_of report) meanwhile rests (shown read) (λ still. (left still).calm)
    (subst (λ (r : Report). AnswersOver (λ _. HasRisen before now) question (opened_files (g.seen disk)) (tells r)) (sym told) (over_refused (λ _. HasRisen before now) question (opened_files (g.seen disk)) why refuses read))
refused_serve g disk end files doubt before now question why (Err stops.Memory) told own unread meanwhile rests shown alone refuses journal left =
    record {
      crash = meanwhile;
      untouched = alone;
      shown = λ still. (left still).shown;
      calm = λ still. (left still).calm;
    }
refused_serve g disk end files doubt before now question why (Err stops.DiskFault) told own unread meanwhile rests shown alone refuses journal left =
    Seeking meanwhile
refused_serve g disk end files doubt before now question why (Err stops.ReadFault) told own unread meanwhile rests shown alone refuses journal left =
    absurd (unread refl)

-- ---- one that is

-- on a calm disk the opened journal stands for a run on the files that the opening leaves, with a doubt that stands for
-- no other files
pub has_begun : {D : Type 0} (g : Ghosts D) (disk : D) (files : Image) (doubt : Option (List FileText))
    (names : List (List ℕ)) (journal : JournalValue D) → IsCalm (g.seen disk) (g.may_leave disk) files doubt
    → IsEither files doubt (opened_files (g.seen disk))
    → (later : Option (List FileText)) → MayBeLeft (g.seen disk) later
    → IsStore g journal.disk journal (new_run names (opened_files (g.seen disk)) (g.faults disk) later)
    → ((others : Image) (other : Option (List FileText)) → IsCalm (g.seen disk) (g.may_leave disk) others other → SameFiles others (opened_files (g.seen disk)) → IsStore g journal.disk journal (new_run names others (g.faults disk) other))
    → HasBegun g disk files doubt names journal
has_begun g disk files doubt names journal calm either later may_be store own = by (open_list (g.seen disk)) refl
  where
    opened : Image
    opened = opened_files (g.seen disk)

    by : (list : List (List FileText)) → open_list (g.seen disk) ≡ list → HasBegun g disk files doubt names journal
    by (entry ∷ entries) is =
        let none : later ≡ None = may_be (λ nothing. let both = sym is ∙ nothing in cc) in
        record {
          first = None;
          store = subst (λ (d : Option (List FileText)). IsStore g journal.disk journal (new_run names opened (g.faults disk) d)) none store;
          within = either_none files doubt opened either;
          settled = λ some. refl;
        }
    by [] is =
        let on = calm_on (g.seen disk) (g.may_leave disk) files doubt opened calm either in
        record {
          first = on.first;
          store = own opened on.first on.calm (λ file not_own. refl);
          within = on.within;
          settled = λ some. absurd (some is);
        }
