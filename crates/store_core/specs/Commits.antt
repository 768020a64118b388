-- What `Core::commit` promises, by the core and the record before and after, and by its answer. (This project's own.)
use Rattle.std.specs.Prelude.{◌≡◌, ℕ, ◌≤◌, true, false, List, length, Option, Result, Err}
use Rattle.kdb_outside.specs.declared.disks.Disk.{Ghosts}
use Rattle.kdb_outside.specs.Faults.{HasRisen}
use Rattle.kdb_outside.specs.Frames.{GoesOn}
use Rattle.journal_steps.specs.Moments.{LeavesOnly}
use Rattle.model_crashes.specs.Runs.{Run, files_of, IsAmid}
use Rattle.model_files.specs.Texts.{entry_of}
use Rattle.model_maps.specs.KeyMap.{KeyMap}
use Rattle.model_rules.specs.Rules.{longest_pattern}
use Rattle.model_specified.specs.declared.violations.Violation.{Violation}
use Rattle.model_store.specs.Records as model
use Rattle.model_store.specs.Rules.{has_risen}
use Rattle.model_store.specs.Sets as sets
use Rattle.model_store.specs.Store.{Formats, store_of}
use Rattle.model_store.specs.Verdicts.{commit_of}
use Rattle.model_store.specs.Worlds.{World}
use Rattle.mounted_files.specs.declared.files.MountedFile.{MountedFile}
use Rattle.store_core.specs.Answers.{IsJudged, has_written}
use Rattle.store_core.specs.Frames.{IsUnwritten}
use Rattle.store_core.specs.Joined.{Belongs, BelongsIn, HasAnswered, HasMade}
use Rattle.store_core.specs.declared.committing.CommitFault.{CommitFault}
use Rattle.store_core.specs.declared.committing.CommitFault.TheVariants.{DiskFault, Invalid}
use Rattle.store_core.specs.declared.committing.Done.{Done}
use Rattle.store_core.specs.declared.cores.Core.{Core}
use Rattle.store_verdict.specs.PreparedView.{prepared_of}
use Rattle.store_verdict.specs.RecordView.{handle_of, places_of, proc_of}
use Rattle.store_verdict.specs.declared.prepared.Prepared.{Prepared}
use Rattle.store_verdict.specs.declared.records.Record.{Record}

-- by the mounted files of the plan, for any keys that the handles have in `proc`, and by the matcher's count of
-- refusals
pub record CommitsSet (formats : Formats) {D P : Type 0} (g : Ghosts D) (refusals : P → ℕ) (files : List MountedFile) (old new : Core D P) (before after : Record) (set : Prepared) (result : Result Done CommitFault) : Type 0 where
  -- what the history decides, whatever the disk tells
  pub judged : (procs : ℕ → KeyMap)
      → IsJudged formats (store_of files procs) (has_risen (refusals old.patterns) (refusals new.patterns)) old.history.commits old.keys (prepared_of set) result
  pub made : (procs : ℕ → KeyMap) (records : ℕ → model.Record) (made : ℕ → Option sets.Prepared) (world : World) (p : ℕ)
      → BelongsIn formats (store_of files procs) old records made world p before set
      → HasMade formats (store_of files procs) old new records made p before after set (has_risen (refusals old.patterns) (refusals new.patterns)) result
  -- and on the disk
  pub committed : (procs : ℕ → KeyMap) (opened : D) (records : ℕ → model.Record) (made : ℕ → Option sets.Prepared)
      (world : World) (run : Run) (p : ℕ)
      → Belongs formats g (store_of files procs) opened old records made world run p before set
      → HasAnswered formats g (store_of files procs) opened old new records made run p before after set (has_risen (refusals old.patterns) (refusals new.patterns)) result
  pub any_moment : (procs : ℕ → KeyMap) (opened : D) (records : ℕ → model.Record) (made : ℕ → Option sets.Prepared)
      (world : World) (run : Run) (p : ℕ)
      → Belongs formats g (store_of files procs) opened old records made world run p before set
      → LeavesOnly g old.journal.disk new.journal.disk (IsAmid (files_of run) run.doubt (entry_of formats (store_of files procs) old.keys (commit_of (prepared_of set))))
  -- whatever is answered, the keys that the opening found stay
  pub start : new.start ≡ old.start
  pub goes : GoesOn g old.journal.disk new.journal.disk
  pub cause : (front : ℕ) → result ≡ Err (DiskFault front)
      → HasRisen (g.faults old.journal.disk) (g.faults new.journal.disk)
  -- a pattern that is not too long breaks rule 6 only where the matcher refused one
  pub refused : (violation : Violation) (front : ℕ) → result ≡ Err (Invalid violation front) → violation.rule ≡ 6
      → length violation.given ≤ longest_pattern → HasRisen (refusals old.patterns) (refusals new.patterns)
  pub later : refusals old.patterns ≤ refusals new.patterns
  pub unwritten : has_written result ≡ false → IsUnwritten old new
  pub wrote : has_written result ≡ true → new.wrote ≡ true
  pub handle : handle_of after ≡ handle_of before
  pub places : places_of after ≡ places_of before
  pub proc : proc_of after ≡ proc_of before
