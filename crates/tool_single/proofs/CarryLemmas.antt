-- How a request is carried out, by what it asks for: by a question to the store, or without the store.
use Rattle.std.proofs.Common.{◌≡◌, ◌≢◌, ℕ, ◌≤◌, true, List, Option, Some, Result, Ok, Err, IfOk, IsOk, refl, sym, ap, subst, ◌∙◌, arith}
use Rattle.std.proofs.lemmas.Result.{IfOk-weaker}
use Rattle.all_formats.specs.Meanings as all
use Rattle.intent_journal.specs.Opened.{opened_files}
use Rattle.intent_journal.specs.States.{IsCalm}
use Rattle.journal_codec.specs.declared.files.FileText.{FileText}
use Rattle.kdb_outside.specs.Frames.{OnlyReads}
use Rattle.kdb_outside.specs.Images.{Image}
use Rattle.kdb_outside.specs.declared.disks.Disk as disks
use Rattle.kdb_outside.specs.declared.kinds.Kind.{Kind}
use Rattle.kdb_outside.specs.declared.sources.Source as sources
use Rattle.kdb_outside.proofs.Frames.{OnlyReads-goes_on, OnlyReads-none}
use Rattle.model_maps.specs.KeyMap.{KeyMap}
use Rattle.model_names.specs.Name.{Name}
use Rattle.mounted_files.specs.Files.{Holds}
use Rattle.regex_check.specs.declared.patterns.Patterns as matchers
use Rattle.store_lines.specs.Lines.{bad_journal, unknown_journal}
use Rattle.tool_commands.specs.Report.{IsAnswered, Report}
use Rattle.tool_commands.specs.StepView.{report_of}
use Rattle.tool_commands.specs.declared.reports.Report as code
use Rattle.tool_words.specs.Request.{Asks, Imports, On, Question, Replace, Request}
use Rattle.tool_single.specs.Answer.{Answer, tells}
use Rattle.tool_single.specs.Answers.{AnswersImport, AnswersOver, AnswersRequest, Held}
use Rattle.tool_single.specs.Broken.{TellsOfJournal}
use Rattle.tool_single.specs.Carried.{CarriesOut, PutsQuestion, Refusing}
use Rattle.tool_single.specs.Input.{FailsToRead, IsInput, LeavesInput, taken}
use Rattle.tool_single.specs.Serving.{Serve, Unserved}
use Rattle.tool_single.specs.Stops.{or_memory}
use Rattle.tool_single.specs.Untold.{AsksStoreWith, ReportsUntold}
use Rattle.tool_single.specs.declared.answers.Ended.{Ended}
use Rattle.tool_single.specs.declared.answers.Stop.{Stop}
use Rattle.tool_single.specs.declared.answers.Stop.TheVariants as stops
use Rattle.tool_single.proofs.BrokenLemmas.{told_of_held}
use Rattle.tool_single.proofs.ServeLemmas.{alone_stopped, alone_unserved, handed_calm, handed_on, serve_calm, serve_unserved, serve_weaker}

-- what only memory can be wanting for stops for nothing else
pub not_stopped : {E : Type 0} (made : Result code.Report E) (answer : Result code.Report Stop) (stop : Stop)
    → answer ≡ or_memory made → answer ≡ Err stop → stop ≡ stops.Memory
not_stopped (Ok report) answer stop is stopped =
    absurd (let both : ◌≡◌ {A = Result code.Report Stop} (Ok report) (Err stop) = sym is ∙ stopped in cc)
not_stopped (Err fault) answer stop is stopped =
    let both : ◌≡◌ {A = Result code.Report Stop} (Err stops.Memory) (Err stop) = sym is ∙ stopped in cc

module _ {S D P : Type 0} (s : sources.Ghosts S) (d : disks.Ghosts D) (p : matchers.Ghosts P) (source source_now : S) (disk : D) (patterns : P) (ended : Ended D P) where
  abbrev seen : Image
  seen = opened_files (d.seen disk)

  -- a question is put to the store
  pub asks-carried : (question : Question) → PutsQuestion d p question disk patterns ended
      → CarriesOut s d p (Asks question) source source disk patterns ended
  asks-carried question puts = record {
    served = λ tells_disk files doubt calm given fed. puts.served tells_disk files doubt calm;
    unserved = λ tells_disk files doubt calm. serve_unserved d files doubt (AnswersOver (Refusing p patterns ended) question seen) ended.answer disk ended.disk (puts.served tells_disk files doubt calm);
    calm = λ tells_disk files doubt calm. serve_calm d files doubt (AnswersOver (Refusing p patterns ended) question seen) ended.answer disk ended.disk (puts.served tells_disk files doubt calm) puts.cause;
    untouched = λ tells_disk none given fed. puts.untouched tells_disk none;
    unstored = puts.unstored;
    broken = λ tells_disk at is given fed. puts.broken tells_disk at is;
    unknown = λ tells_disk version is given fed. puts.unknown tells_disk version is;
    broken_stays = puts.broken_stays;
    broken_kept = λ tells_disk fault is kept given fed asks. puts.broken_kept tells_disk fault is kept;
    untold = puts.status;
    asked = λ is. record { asks = λ given fed. tt; whole = refl };
    unasked = λ given fed none. absurd (none tt);
    own = puts.own;
    input = refl;
    read = λ is. absurd (puts.input is);
    cause = puts.cause;
    goes = puts.goes;
    later = omega arith;
    later_patterns = puts.later;
  }

  -- an import replaces keys by those that its input holds
  pub held-carried : (name : Name) (kind : Kind) (keys : KeyMap)
      → ((bytes : List ℕ) → s.left source ≡ Some bytes → Holds all.Reads name kind (taken bytes) keys)
      → ((answered : Type 0) → LeavesInput s (Imports name kind) answered source source_now)
      → s.faults source ≤ s.faults source_now → PutsQuestion d p (On name (Replace keys)) disk patterns ended
      → CarriesOut s d p (Imports name kind) source source_now disk patterns ended
  held-carried name kind keys holds leaves later puts = record {
    served = λ tells_disk files doubt calm bytes is.
        serve_weaker d files doubt Over (AnswersImport (Refusing p patterns ended) name kind (taken bytes) seen) ended.answer disk ended.disk (λ answer over. Held keys (holds bytes is) over) (puts.served tells_disk files doubt calm);
    unserved = λ tells_disk files doubt calm. serve_unserved d files doubt Over ended.answer disk ended.disk (puts.served tells_disk files doubt calm);
    calm = λ tells_disk files doubt calm. serve_calm d files doubt Over ended.answer disk ended.disk (puts.served tells_disk files doubt calm) puts.cause;
    untouched = λ tells_disk none bytes is nothing. puts.untouched tells_disk none (λ answer over. nothing answer (Held keys (holds bytes is) over));
    unstored = puts.unstored;
    broken = λ tells_disk at is bytes left. told_of_held name kind bytes (bad_journal at) keys ended.answer (holds bytes left) (puts.broken tells_disk at is);
    unknown = λ tells_disk version is bytes left. told_of_held name kind bytes (unknown_journal version) keys ended.answer (holds bytes left) (puts.unknown tells_disk version is);
    broken_stays = puts.broken_stays;
    broken_kept = λ tells_disk fault is kept bytes left asks. puts.broken_kept tells_disk fault is kept;
    untold = puts.status;
    asked = λ is. record { asks = λ bytes left. (keys, holds bytes left); whole = leaves (Unit {0}) };
    unasked = λ bytes left none. absurd (none (keys, holds bytes left));
    own = puts.own;
    input = leaves (IsOk ended.answer);
    read = λ is. absurd (puts.input is);
    cause = puts.cause;
    goes = puts.goes;
    later = later;
    later_patterns = puts.later;
  }
    where
      Over : Answer → Type 0
      Over = AnswersOver (Refusing p patterns ended) (On name (Replace keys)) seen

  -- ---- the disk and the matcher are handed back as they came

  module _ (wanted : Request) (disk_is : ended.disk ≡ disk) (patterns_is : ended.patterns ≡ patterns) (leaves : LeavesInput s wanted (IsOk ended.answer) source source_now) (later : s.faults source ≤ s.faults source_now) where
    reads : OnlyReads d disk ended.disk
    reads = subst (OnlyReads d disk) (sym disk_is) (OnlyReads-none d disk)

    -- with some answer
    handed : (d.tells disk ≡ true → (files : Image) (doubt : Option (List FileText)) → IsCalm (d.seen disk) (d.may_leave disk) files doubt → (given : List ℕ) → IsInput wanted (s.left source) given
        → Serve d files doubt (AnswersRequest (Refusing p patterns ended) wanted given seen) ended.answer disk ended.disk)
        → ((line given : List ℕ) → IsInput wanted (s.left source) given → IfOk ended.answer (λ report. TellsOfJournal wanted given line (report_of report)))
        → ((given : List ℕ) → IsInput wanted (s.left source) given → IsOk ended.answer → AsksStoreWith wanted given → ⊥)
        → IfOk ended.answer (λ report. ReportsUntold wanted (report_of report))
        → IfOk ended.answer (λ report. IsAnswered report.status)
        → (ended.answer ≡ Err stops.ReadFault → FailsToRead wanted (s.faults source) (s.faults source_now))
        → ended.answer ≢ Err stops.DiskFault
        → CarriesOut s d p wanted source source_now disk patterns ended
    handed served told unasked untold own read no_disk = record {
      served = served;
      unserved = λ tells_disk files doubt calm stopped. subst (Unserved d files doubt disk) (sym disk_is) (alone_unserved d disk files doubt tells_disk calm);
      calm = λ tells_disk files doubt calm still. handed_calm d disk ended.disk files doubt disk_is tells_disk calm;
      untouched = λ tells_disk none given fed nothing. reads;
      unstored = λ tells_disk none not_done. reads;
      broken = λ tells_disk at is given fed. told (bad_journal at) given fed;
      unknown = λ tells_disk version is given fed. told (unknown_journal version) given fed;
      broken_stays = λ tells_disk fault is kept. reads;
      broken_kept = λ tells_disk fault is kept given fed asks answered. absurd (unasked given fed answered asks);
      untold = untold;
      asked = λ is. absurd (no_disk is);
      unasked = λ given fed none. (disk_is, patterns_is);
      own = own;
      input = leaves;
      read = λ is. record { risen = read is; disk_is = disk_is; patterns_is = patterns_is };
      cause = λ is. absurd (no_disk is);
      goes = OnlyReads-goes_on d disk ended.disk reads;
      later = later;
      later_patterns = let same : p.refusals ended.patterns ≡ p.refusals patterns = ap p.refusals patterns_is in omega (arith, same);
    }

    -- what is told without the store, unless memory is wanting
    pub told-carried : {E : Type 0} (made : Result code.Report E) (told : Report) → ended.answer ≡ or_memory made
        → IfOk made (λ report. report_of report ≡ told) → IfOk made (λ report. IsAnswered report.status)
        → ((given : List ℕ) → IsInput wanted (s.left source) given → AnswersRequest (Refusing p patterns ended) wanted given seen (tells told))
        → ((line given : List ℕ) → IsInput wanted (s.left source) given → TellsOfJournal wanted given line told)
        → ((given : List ℕ) → IsInput wanted (s.left source) given → AsksStoreWith wanted given → ⊥)
        → ReportsUntold wanted told → CarriesOut s d p wanted source source_now disk patterns ended
    told-carried {E} made told is tells_it own answers of_journal unasked untold =
        handed
        (λ tells_disk files doubt calm given fed. handed_on d disk ended.disk files doubt (AnswersRequest (Refusing p patterns ended) wanted given seen) made ended.answer is disk_is tells_disk calm
        (of_told (λ report. AnswersRequest (Refusing p patterns ended) wanted given seen (tells report)) (answers given fed)))
        (λ line given fed. answered (λ report. TellsOfJournal wanted given line (report_of report)) (of_told (TellsOfJournal wanted given line) (of_journal line given fed)))
        (λ given fed made_it. unasked given fed)
        (answered (λ report. ReportsUntold wanted (report_of report)) (of_told (ReportsUntold wanted) untold))
        (answered (λ report. IsAnswered report.status) own)
        (λ stopped. absurd (let memory = not_stopped made ended.answer stops.ReadFault is stopped in cc))
        (λ stopped. absurd (let memory = not_stopped made ended.answer stops.DiskFault is stopped in cc))
      where
        of_told : (Q : Report → Type 0) → Q told → IfOk made (λ report. Q (report_of report))
        of_told Q holds = IfOk-weaker made _ _ (λ report same. subst Q (sym same) holds) tells_it

        or_stopped : (Q : code.Report → Type 0) (r : Result code.Report E) → IfOk r Q → IfOk (or_memory r) Q
        or_stopped Q (Ok report) holds = holds
        or_stopped Q (Err fault) holds = tt

        answered : (Q : code.Report → Type 0) → IfOk made Q → IfOk ended.answer Q
        answered Q holds = subst (λ (r : Result code.Report Stop). IfOk r Q) (sym is) (or_stopped Q made holds)

    -- nothing is told, for want of memory or since the input failed
    pub stopped-carried : (stop : Stop) → ended.answer ≡ Err stop → stop ≢ stops.DiskFault
        → (stop ≡ stops.ReadFault → FailsToRead wanted (s.faults source) (s.faults source_now))
        → CarriesOut s d p wanted source source_now disk patterns ended
    stopped-carried stop is no_disk read =
        handed
        (λ tells_disk files doubt calm given fed. subst (λ (e : D). Serve d files doubt (AnswersRequest (Refusing p patterns ended) wanted given seen) ended.answer disk e) (sym disk_is)
        (subst (λ (r : Result code.Report Stop). Serve d files doubt (AnswersRequest (Refusing p patterns ended) wanted given seen) r disk disk) (sym is)
        (alone_stopped d disk files doubt (AnswersRequest (Refusing p patterns ended) wanted given seen) stop tells_disk calm no_disk)))
        (λ line given fed. none (λ report. TellsOfJournal wanted given line (report_of report)))
        (λ given fed made_it asks. no_answer made_it)
        (none (λ report. ReportsUntold wanted (report_of report))) (none (λ report. IsAnswered report.status))
        (λ stopped. read (let both : ◌≡◌ {A = Result code.Report Stop} (Err stop) (Err stops.ReadFault) = sym is ∙ stopped in cc))
        (λ stopped. no_disk (let both : ◌≡◌ {A = Result code.Report Stop} (Err stop) (Err stops.DiskFault) = sym is ∙ stopped in cc))
      where
        none : (Q : code.Report → Type 0) → IfOk ended.answer Q
        none Q = subst (λ (r : Result code.Report Stop). IfOk r Q) (sym is) tt

        no_answer : IsOk ended.answer → ⊥
        no_answer made_it = let stopped = subst (λ (r : Result code.Report Stop). IsOk r) is made_it in cc
