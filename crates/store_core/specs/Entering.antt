-- What a set leaves that is a commit. (This project's own.)
use Rattle.std.specs.Prelude.{◌≡◌, ℕ, ◌+◌, true, List, [], ◌∷◌, ◌++◌, length, map as over, Option, Result, Ok, Err}
use Rattle.kdb_outside.specs.declared.disks.Disk.{Ghosts}
use Rattle.kdb_outside.specs.Faults.{HasRisen}
use Rattle.kdb_outside.specs.Frames.{GoesOn}
use Rattle.journal_codec.specs.declared.files.FileText.{FileText}
use Rattle.journal_steps.specs.Moments.{LeavesOnly}
use Rattle.intent_journal.specs.Journal.{JournalValue}
use Rattle.model_crashes.specs.Runs.{Run, files_of, IsAmid, IsOneOf, after_begun, after_commit}
use Rattle.store_core.specs.Heads.{names_at}
use Rattle.model_history.specs.History.{Commit}
use Rattle.model_maps.specs.KeyMap.{KeyMap}
use Rattle.model_store.specs.Cores.{storing}
use Rattle.model_store.specs.Store.{Store}
use Rattle.mount_table.specs.declared.mounts.Mount.{Mount}
use Rattle.set_split.specs.Seen.{numbered}
use Rattle.store_core.specs.Frames.{IsUnwritten}
use Rattle.store_core.specs.declared.committing.CommitFault.{CommitFault}
use Rattle.store_core.specs.declared.committing.CommitFault.TheVariants.{DiskFault, Memory}
use Rattle.store_core.specs.declared.committing.Done.{Done}
use Rattle.store_core.specs.declared.committing.Done.TheVariants.{Committed}
use Rattle.store_core.specs.declared.cores.Core.{Core}
use Rattle.store_phases.specs.Stores.{IsStore}
use Rattle.store_verdict.specs.RecordView.{handle_of, places_of, proc_of, record_of}
use Rattle.store_verdict.specs.declared.prepared.Prepared.{Prepared}
use Rattle.store_verdict.specs.declared.records.Record.{Record}

-- a journal stands for a run since the disk was opened, under a head that names the files of some mounts
pub record HoldsRun {D : Type 0} (g : Ghosts D) (mounts : List Mount) (opened : D) (journal : JournalValue D) (run : Run) : Type 0 where
  pub names : run.names ≡ names_at mounts
  pub store : IsStore g opened journal run

-- it is acknowledged: it joined the history, and the run on the disk, and its record keeps what was wanted for each
-- touched mount
pub record HasEntered {D P : Type 0} (g : Ghosts D) (mounts : List Mount) (commit : Commit) (keys : KeyMap) (set : Prepared) (old new : Core D P) (before after : Record) : Type 0 where
  pub history : new.history.commits ≡ old.history.commits ++ commit ∷ []
  pub keys_are : new.keys ≡ keys
  pub kept : (store : Store) (touched : List ℕ) (wanted : ℕ → KeyMap) → store.mounts ≡ mounts
      → numbered set.wanted ≡ over (λ m. (m, wanted m)) touched
      → record_of after ≡ storing store touched (length old.history.commits + 1) wanted (record_of before)
  pub wrote : new.wrote ≡ true
  pub stored : (opened : D) (run : Run) → HoldsRun g mounts opened old.journal run
      → IsStore g opened new.journal (after_commit run set.texts)

-- the disk failed: what is kept is as it was, and at most one entry may still come into the files
pub record HasBegun {D P : Type 0} (g : Ghosts D) (mounts : List Mount) (set : Prepared) (old new : Core D P) (before after : Record) : Type 0 where
  pub history : new.history.commits ≡ old.history.commits
  pub keys_are : new.keys ≡ old.keys
  pub kept : record_of after ≡ record_of before
  pub wrote : new.wrote ≡ true
  pub begun : (opened : D) (run : Run) → HoldsRun g mounts opened old.journal run
      → (later : Option (List FileText)) × IsOneOf later run.doubt set.texts
      × IsStore g opened new.journal (after_begun run set.texts later)
  pub cause : HasRisen (g.faults old.journal.disk) (g.faults new.journal.disk)

-- by the answer; where memory is wanting nothing is written
abbrev pub IsEntered : {D P : Type 0} → Ghosts D → List Mount → Commit → ℕ → KeyMap → Prepared → Core D P → Core D P → Record → Record → Result Done CommitFault → Type 0
IsEntered g mounts commit aside keys set old new before after (Ok made) =
    (made ≡ Committed (length old.history.commits + 1) aside) × HasEntered g mounts commit keys set old new before after
IsEntered g mounts commit aside keys set old new before after (Err Memory) =
    (record_of after ≡ record_of before) × IsUnwritten old new
IsEntered g mounts commit aside keys set old new before after (Err (DiskFault front)) =
    (front ≡ length old.history.commits) × HasBegun g mounts set old new before after
IsEntered g mounts commit aside keys set old new before after (Err why) = ⊥

-- and whatever is answered
pub record EntersHistory {D P : Type 0} (g : Ghosts D) (mounts : List Mount) (commit : Commit) (aside : ℕ) (keys : KeyMap) (set : Prepared) (old new : Core D P) (before after : Record) (result : Result Done CommitFault) : Type 0 where
  pub entered : IsEntered g mounts commit aside keys set old new before after result
  pub any_moment : (opened : D) (run : Run) → HoldsRun g mounts opened old.journal run
      → LeavesOnly g old.journal.disk new.journal.disk (IsAmid (files_of run) run.doubt set.texts)
  pub start : new.start ≡ old.start
  pub patterns : new.patterns ≡ old.patterns
  pub goes : GoesOn g old.journal.disk new.journal.disk
  pub handle : handle_of after ≡ handle_of before
  pub places : places_of after ≡ places_of before
  pub proc : proc_of after ≡ proc_of before
