-- What a turn with an undoing needs and leaves: first what it gets and makes, which touches nothing, and then a set of
-- that. (This project's own.)
use Rattle.std.specs.Prelude.{◌≡◌, ℕ, ◌≤◌, Bool, true, false, List, [], ◌++◌, length, Result, Ok, Err}
use Rattle.std.specs.Coded.{Coded}
use Rattle.general_words.specs.Memory.{UnlessMemory}
use Rattle.kdb_outside.specs.declared.disks.Disk.{Ghosts}
use Rattle.key_name.specs.Owner.{IsPoints}
use Rattle.kdb_handle.specs.Opened.{store_at}
use Rattle.kdb_handle.specs.Shares.{IsShared, told_now}
use Rattle.kdb_handle.specs.Story.{Told, commits_of}
use Rattle.kdb_handle.specs.Turns.{Commits}
use Rattle.kdb_handle.specs.Undoing.{IsBarred, IsGot, IsUndoneBy, Undo, keys_got, keys_made, parent_of, rec_got, set_made, told_by_undo}
use Rattle.kdb_handle.specs.declared.setting.SetFault.{SetFault}
use Rattle.kdb_handle.specs.declared.setting.SetFault.TheVariants as set_fault
use Rattle.kdb_handle.specs.declared.shared.Shared.{Shared}
use Rattle.kdb_handle.specs.declared.taking_back.Fetching.{Fetching}
use Rattle.kdb_handle.specs.declared.undoing.UndoFault.{UndoFault}
use Rattle.kdb_handle.specs.declared.undoing.UndoFault.TheVariants as undo_fault
use Rattle.model_maps.specs.KeyMap.{KeyMap}
use Rattle.model_names.specs.Name.{Name}
use Rattle.model_store.specs.Records.{IsRecord}
use Rattle.model_store.specs.Sets.{front_in}
use Rattle.model_store.specs.Store.{Formats, points_of}
use Rattle.mounted_files.specs.declared.files.MountedFile.{MountedFile}
use Rattle.mounted_files.specs.declared.refusals.GetFault.{GetFault}
use Rattle.mounted_files.specs.declared.refusals.GetFault.TheVariants as get_fault
use Rattle.store_core.specs.declared.committing.CommitFault.{CommitFault}
use Rattle.store_core.specs.declared.committing.CommitFault.TheVariants as commit_fault
use Rattle.store_core.specs.declared.committing.Done.{Done}
use Rattle.store_core.specs.declared.cores.Core.{Core}
use Rattle.store_verdict.specs.Preparing.{IsMade, IsRefused}
use Rattle.store_verdict.specs.ProcKeys.{AreProc}
use Rattle.store_verdict.specs.RecordView.{handle_of, places_of, proc_of, record_of}
use Rattle.store_verdict.specs.declared.faults.PrepareFault.{PrepareFault}
use Rattle.store_verdict.specs.declared.faults.PrepareFault.TheVariants as prepare_fault
use Rattle.store_verdict.specs.declared.prepared.Prepared.{Prepared}
use Rattle.store_verdict.specs.declared.records.Record.{Record}

-- the core stands for a story from the opening of these files on, and the record is that of a handle in its turn, whose
-- own keys are in `proc`
pub record MayUndo (formats : Formats) {D P : Type 0} (g : Ghosts D) (code : Coded D) (refused : P → ℕ) (files : List MountedFile) (core : Core D P) (entries : ℕ) (log : List Told) (rec : Record) : Type 0 where
  pub shared : IsShared formats g code refused core entries log
  pub opening : shared.opening.files ≡ files
  pub keeps : IsRecord (store_at files) (commits_of log) (handle_of rec) (front_in (record_of rec)) (record_of rec)
  pub places : length files ≤ places_of rec
  pub procs : AreProc (proc_of rec)

-- the undoing of a commit by the record of a handle, at a story
abbrev pub undo_in : List MountedFile → Record → List Told → ℕ → Undo
undo_in files rec log number =
    record {
      files = files;
      handle = handle_of rec;
      procs = proc_of rec;
      rec = record_of rec;
      history = commits_of log;
      number = number;
    }

-- ---- what is got and made

-- the parent, the record and the keys that the get gave, and these with the inverse made on them
pub record IsFetched (undo : Undo) (rec : Record) (fetching : Fetching) : Type 0 where
  pub points : IsPoints (points_of (store_at undo.files))
  pub got : IsGot undo
  pub parent_is : fetching.parent ≡ parent_of undo
  pub rec_is : record_of fetching.rec ≡ rec_got undo
  pub got_is : fetching.got ≡ keys_got undo
  pub made_is : fetching.made ≡ keys_made undo
  pub handle : handle_of fetching.rec ≡ handle_of rec
  pub places : places_of fetching.rec ≡ places_of rec
  pub procs : proc_of fetching.rec ≡ proc_of rec

abbrev pub Fetches : Undo → Record → Result Fetching UndoFault → Type 0
Fetches undo rec (Ok fetching) = IsFetched undo rec fetching
Fetches undo rec (Err why) = IsBarred undo why

-- the refusal of a get, as an undoing tells it
abbrev pub of_get : GetFault → UndoFault
of_get get_fault.Memory = undo_fault.Memory
of_get why = undo_fault.Get why

-- ---- the set

-- a set that isn't prepared leaves all
pub record IsUnprepared (formats : Formats) {D F P : Type 0} (files : List MountedFile) (old new : Shared D F P) (rec left : Record) (parent : Name) (keys : KeyMap) (why : PrepareFault) : Type 0 where
  pub refused : UnlessMemory prepare_fault.Memory (IsRefused formats (store_at files) (handle_of rec) (record_of rec) parent keys why) why
  pub core : new.core ≡ old.core
  pub entries : new.entries ≡ old.entries
  pub told : told_now new.fresh ≡ []
  pub left_is : left ≡ rec

-- one that is prepared is committed, with this answer
pub record IsCommitted (formats : Formats) {D F P : Type 0} (g : Ghosts D) (code : Coded D) (refused : P → ℕ) (files : List MountedFile) (old new : Shared D F P) (rec left : Record) (parent : Name) (keys : KeyMap) (result : Result Done CommitFault) : Type 0 where
  pub set : Prepared
  pub made : IsMade formats (store_at files) (handle_of rec) (record_of rec) parent keys set
  pub commits : Commits formats g code refused files old new rec left set result

abbrev pub SetsIn : Formats → {D F P : Type 0} → Ghosts D → Coded D → (P → ℕ) → List MountedFile → Shared D F P → Shared D F P → Record → Record → Name → KeyMap → Result Done SetFault → Type 0
SetsIn formats g code refused files old new rec left parent keys (Ok made) =
    IsCommitted formats g code refused files old new rec left parent keys (Ok made)
SetsIn formats g code refused files old new rec left parent keys (Err (set_fault.Commit why)) =
    IsCommitted formats g code refused files old new rec left parent keys (Err why)
SetsIn formats g code refused files old new rec left parent keys (Err (set_fault.Prepare why)) =
    IsUnprepared formats files old new rec left parent keys why

-- a refusal is want of memory
abbrev pub wants_memory : SetFault → Bool
wants_memory (set_fault.Prepare prepare_fault.Memory) = true
wants_memory (set_fault.Commit commit_fault.Memory) = true
wants_memory why = false

-- ---- the turn

-- What a turn with an undoing leaves. Wherever it may be made, the core stands for the story with what the turn told,
-- the record is that of its fronts there, and the history that the turn found decides all; the number, the places and
-- the keys in `proc` stay
pub record Undoes (formats : Formats) {D F P : Type 0} (g : Ghosts D) (code : Coded D) (refused : P → ℕ) (files : List MountedFile) (old new : Shared D F P) (rec left : Record) (number : ℕ) (keys after : KeyMap) (result : Result Done UndoFault) : Type 0 where
  pub shared : (log : List Told) → MayUndo formats g code refused files old.core old.entries log rec
      → IsShared formats g code refused new.core new.entries (log ++ told_now new.fresh)
  pub keeps : (log : List Told) → MayUndo formats g code refused files old.core old.entries log rec
      → IsRecord (store_at files) (commits_of (log ++ told_now new.fresh)) (handle_of left) (front_in (record_of left)) (record_of left)
  pub told : (log : List Told) → MayUndo formats g code refused files old.core old.entries log rec
      → told_now new.fresh ≡ told_by_undo (set_made (undo_in files rec log number)) result
  pub undone : (log : List Told) → MayUndo formats g code refused files old.core old.entries log rec
      → IsUndoneBy formats (undo_in files rec log number) keys (record_of left) after result
  pub handle : handle_of left ≡ handle_of rec
  pub places : places_of left ≡ places_of rec
  pub proc : proc_of left ≡ proc_of rec
