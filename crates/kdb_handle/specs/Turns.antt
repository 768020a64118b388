-- What a turn at an open store needs and leaves. (This project's own.)
use Rattle.std.specs.Prelude.{◌≡◌, ℕ, ◌+◌, ◌≤◌, nat_eq, nat_le, Bool, ◌&&◌, if◌then◌else◌, List, [], ◌∷◌, ◌++◌, length, Result, Ok, Err}
use Rattle.std.specs.Coded.{Coded}
use Rattle.kdb_outside.specs.declared.disks.Disk.{Ghosts}
use Rattle.kdb_handle.specs.Opened.{store_at}
use Rattle.kdb_handle.specs.Shares.{IsShared, told_now}
use Rattle.kdb_handle.specs.Story.{Told, Committed, Failed, Refused, commits_of}
use Rattle.kdb_handle.specs.declared.shared.Shared.{Shared}
use Rattle.model_history.specs.History as past
use Rattle.model_maps.specs.KeyMap.{KeyMap}
use Rattle.model_names.specs.Name.{Name}
use Rattle.model_rules.specs.Rules.{longest_pattern}
use Rattle.model_specified.specs.declared.violations.Violation.{Violation}
use Rattle.model_store.specs.Cores.{storing}
use Rattle.model_store.specs.Records as model
use Rattle.model_store.specs.Records.{IsRecord}
use Rattle.model_store.specs.Sets as sets
use Rattle.model_store.specs.Sets.{front_in, wants}
use Rattle.model_store.specs.Store.{Store, Formats, points_of}
use Rattle.model_store.specs.Verdicts.{commit_of}
use Rattle.mounted_files.specs.declared.files.MountedFile.{MountedFile}
use Rattle.store_core.specs.Answers.{IsJudged}
use Rattle.store_core.specs.declared.committing.CommitFault.{CommitFault}
use Rattle.store_core.specs.declared.committing.CommitFault.TheVariants as fault
use Rattle.store_core.specs.declared.committing.Done.{Done}
use Rattle.store_core.specs.declared.committing.Done.TheVariants as done
use Rattle.store_core.specs.declared.cores.Core.{Core}
use Rattle.store_verdict.specs.Preparing.{IsMade}
use Rattle.store_verdict.specs.PreparedView.{prepared_of}
use Rattle.store_verdict.specs.RecordView.{handle_of, places_of, proc_of, record_of}
use Rattle.store_verdict.specs.declared.prepared.Prepared.{Prepared}
use Rattle.store_verdict.specs.declared.records.Record.{Record}

-- a set was prepared of some keys at a parent, for the store of some mounted files, against what a record keeps of the
-- involved mounts now
pub record IsPrepared (formats : Formats) (files : List MountedFile) (number : ℕ) (rec : model.Record) (set : Prepared) : Type 0 where
  pub parent : Name
  pub keys : KeyMap
  pub made : IsMade formats (store_at files) number rec parent keys set

-- the core stands for a story from the opening of these files on, and the record and the set are those of a handle in
-- its turn
pub record MayCommit (formats : Formats) {D P : Type 0} (g : Ghosts D) (code : Coded D) (refused : P → ℕ) (files : List MountedFile) (core : Core D P) (entries : ℕ) (log : List Told) (rec : Record) (set : Prepared) : Type 0 where
  pub shared : IsShared formats g code refused core entries log
  pub opening : shared.opening.files ≡ files
  pub keeps : IsRecord (store_at files) (commits_of log) (handle_of rec) (front_in (record_of rec)) (record_of rec)
  pub places : length files ≤ places_of rec
  pub prepared : IsPrepared formats files (handle_of rec) (record_of rec) set

-- a pattern that is no longer than one may be was refused
abbrev pub is_refusal : Violation → Bool
is_refusal violation = nat_eq violation.rule 6 && nat_le (length violation.given) longest_pattern

abbrev pub told_of_refusal : sets.Prepared → Violation → List Told
told_of_refusal set violation = if is_refusal violation then Refused set.handle ∷ [] else []

-- what an answer to a commit of a set adds to the story: the commit, or that it failed, or that a pattern was refused,
-- or nothing
abbrev pub told_by : sets.Prepared → Result Done CommitFault → List Told
told_by set (Ok (done.Committed number aside)) = Committed (commit_of set) ∷ []
told_by set (Ok (done.Same front aside)) = []
told_by set (Err (fault.DiskFault front)) = Failed (commit_of set) ∷ []
told_by set (Err (fault.Conflict mount by front)) = []
told_by set (Err (fault.FileTooLarge mount bytes front)) = []
told_by set (Err (fault.Invalid violation front)) = told_of_refusal set violation
told_by set (Err (fault.DatabaseFull weight front)) = []
told_by set (Err (fault.HistoryFull weight front)) = []
told_by set (Err fault.Memory) = []

-- what the record keeps then: on a commit what was wanted for each touched mount, with the commit's number where the
-- mount counts by its backend
abbrev pub record_by : Store → List past.Commit → sets.Prepared → Result Done CommitFault → model.Record → model.Record
record_by store history set (Ok (done.Committed number aside)) rec =
    storing store set.touched (length history + 1) (wants (points_of store) set.keys) rec
record_by store history set (Ok (done.Same front aside)) rec = rec
record_by store history set (Err why) rec = rec

-- What a turn with a set leaves. Wherever the set may be committed, the core stands for the story with what the turn
-- told, and the record is that of its fronts there. The history that the turn found decides the answer, which says what
-- is told and what the record keeps; the number, the places and the keys in `proc` stay
pub record Commits (formats : Formats) {D F P : Type 0} (g : Ghosts D) (code : Coded D) (refused : P → ℕ) (files : List MountedFile) (old new : Shared D F P) (rec left : Record) (set : Prepared) (result : Result Done CommitFault) : Type 0 where
  pub shared : (log : List Told) → MayCommit formats g code refused files old.core old.entries log rec set
      → IsShared formats g code refused new.core new.entries (log ++ told_now new.fresh)
  pub keeps : (log : List Told) → MayCommit formats g code refused files old.core old.entries log rec set
      → IsRecord (store_at files) (commits_of (log ++ told_now new.fresh)) (handle_of left) (front_in (record_of left)) (record_of left)
  pub told : told_now new.fresh ≡ told_by (prepared_of set) result
  pub judged : (risen : Bool)
      × IsJudged formats (store_at files) risen old.core.history.commits old.core.keys (prepared_of set) result
  pub kept : (log : List Told) → MayCommit formats g code refused files old.core old.entries log rec set
      → record_of left ≡ record_by (store_at files) old.core.history.commits (prepared_of set) result (record_of rec)
  pub handle : handle_of left ≡ handle_of rec
  pub places : places_of left ≡ places_of rec
  pub proc : proc_of left ≡ proc_of rec
