-- Taking a commit back, as one turn: a get, the inverse made on what it gave, and a set of that, all by the history
-- that the turn finds. The relation knows of a handle no more than its number, its record and its keys in `proc`: so a
-- session of a batch means the same by it. (This project's own.)
use Rattle.std.specs.Prelude.{◌≡◌, ⊤, ℕ, false, List, [], ◌++◌, length, Some, None, Result, Ok, Err}
use Rattle.std.specs.FinMap as map
use mathlib.Core.List.{IsPrefix}
use Rattle.commit_undo.specs.Inverting.{IsNumberOfNone}
use Rattle.commit_undo.specs.declared.faults.InverseFault.{InverseFault}
use Rattle.commit_undo.specs.declared.faults.InverseFault.TheVariants as inverse_fault
use Rattle.kdb_handle.specs.Handles.{HandleValue}
use Rattle.kdb_handle.specs.Opened.{store_at}
use Rattle.kdb_handle.specs.Sets.{tells_refusal}
use Rattle.kdb_handle.specs.Story.{Told, commits_of, maker_of}
use Rattle.kdb_handle.specs.Turns.{record_by, told_by}
use Rattle.kdb_handle.specs.declared.setting.SetFault.{SetFault}
use Rattle.kdb_handle.specs.declared.setting.SetFault.TheVariants as set_fault
use Rattle.kdb_handle.specs.declared.undoing.UndoFault.{UndoFault}
use Rattle.kdb_handle.specs.declared.undoing.UndoFault.TheVariants as undo_fault
use Rattle.model_history.specs.History.{Commit, replay}
use Rattle.model_maps.specs.KeyMap.{KeyMap}
use Rattle.model_names.specs.Name.{Name}
use Rattle.model_store.specs.Events.{first_bad, got}
use Rattle.model_store.specs.Legal.{IsLegal}
use Rattle.model_store.specs.Records.{Record}
use Rattle.model_store.specs.Sets.{Prepared}
use Rattle.model_store.specs.Store.{Formats, store_of}
use Rattle.model_store.specs.Verdicts.{IsEarly}
use Rattle.model_undo.specs.Undoing.{IsThere, inverse, overtaken}
use Rattle.model_undone.specs.UndoSets.{record_got, taken_back, undo_parent, undo_set}
use Rattle.mounted_files.specs.declared.files.MountedFile.{MountedFile}
use Rattle.mounted_files.specs.declared.refusals.GetFault.{GetFault}
use Rattle.seat_lock.specs.Story.{made_by}
use Rattle.store_core.specs.Answers.{IsJudged}
use Rattle.store_core.specs.Gets.{fault_at}
use Rattle.store_core.specs.declared.committing.CommitFault.TheVariants as commit_fault
use Rattle.store_core.specs.declared.committing.Done.{Done}
use Rattle.store_core.specs.declared.committing.Done.TheVariants as done
use Rattle.store_verdict.specs.Preparing.{IsRefusedSet}
use Rattle.store_verdict.specs.RecordView.{proc_of, record_of}
use Rattle.store_verdict.specs.declared.faults.PrepareFault.TheVariants as prepare_fault

-- what an undoing goes by: the mounts with what their files held; the number, the keys in `proc` and the record of who
-- undoes; the commits that there are; and the number of the one that is to be taken back
pub record Undo : Type 0 where
  pub files : List MountedFile
  pub handle : ℕ
  pub procs : KeyMap
  pub rec : Record
  pub history : List Commit
  pub number : ℕ

-- why a commit has no inverse, as an undoing tells it
abbrev pub of_inverse : InverseFault → UndoFault
of_inverse (inverse_fault.NoCommit number front) = undo_fault.NoCommit number front
of_inverse (inverse_fault.Overtaken name by front) = undo_fault.Overtaken name by front
of_inverse inverse_fault.Memory = undo_fault.Memory

-- ---- what it comes to, where nothing refuses it

-- the parent that it gets: the mountpoint of the mount that the commit touched, and the cascading root where it isn't
-- just one
abbrev pub parent_of : Undo → Name
parent_of undo = undo_parent (store_at undo.files) undo.history undo.number

-- what a get of this parent gives, and what the record keeps then
abbrev pub keys_got : Undo → KeyMap
keys_got undo =
    got (store_of undo.files (λ r. undo.procs)) (replay (store_at undo.files).start undo.history) undo.handle (parent_of undo)

abbrev pub rec_got : Undo → Record
rec_got undo = record_got (store_at undo.files) undo.history (parent_of undo) undo.rec

-- these keys with the inverse of the commit made on them, and the set that they make at this parent
abbrev pub keys_made : Undo → KeyMap
keys_made undo = taken_back (store_at undo.files) undo.history undo.number (keys_got undo)

abbrev pub set_made : Undo → Prepared
set_made undo =
    undo_set (store_at undo.files) undo.history undo.handle (parent_of undo) undo.rec (keys_got undo) undo.number

-- ---- what it answers

-- a get of its parent is refused: the first involved mount that is bad is told with its cause
pub record IsUngot (undo : Undo) (why : GetFault) : Type 0 where
  pub there : IsThere undo.history undo.number
  pub mount : ℕ
  pub bad : first_bad (store_at undo.files) (parent_of undo) ≡ Some mount
  pub cause : fault_at undo.files mount ≡ Some why

-- what refuses it before its set: no commit has the number; a later commit overtakes it, the first such one, at the
-- first such name in it; a mount that the parent involves is bad. Of want of memory nothing is said
abbrev pub IsBarred : Undo → UndoFault → Type 0
IsBarred undo (undo_fault.NoCommit number front) =
    IsNumberOfNone undo.history undo.number × (number ≡ undo.number) × (front ≡ length undo.history)
IsBarred undo (undo_fault.Overtaken name by front) =
    (overtaken undo.history undo.number ≡ Some (by, name)) × (front ≡ length undo.history)
IsBarred undo (undo_fault.Get why) = IsUngot undo why
IsBarred undo (undo_fault.Set why) = ⊥
IsBarred undo undo_fault.Memory = ⊤

-- a get of its parent is made: there is such a commit, which none overtakes, and no involved mount is bad
pub record IsGot (undo : Undo) : Type 0 where
  pub there : IsThere undo.history undo.number
  pub good : first_bad (store_at undo.files) (parent_of undo) ≡ None

-- why its set can be refused: never for a mount that wasn't fetched, and never for a conflict. Want of memory is told
-- alone
abbrev pub CanRefuse : SetFault → Type 0
CanRefuse (set_fault.Prepare (prepare_fault.NotFetched mount)) = ⊥
CanRefuse (set_fault.Prepare prepare_fault.Memory) = ⊥
CanRefuse (set_fault.Commit (commit_fault.Conflict mount by front)) = ⊥
CanRefuse (set_fault.Commit commit_fault.Memory) = ⊥
CanRefuse why = Unit {0}

-- its set is refused before the history is asked, or by the history and the rules, or the disk failed
abbrev pub IsSetRefused : Formats → Undo → SetFault → Type 0
IsSetRefused formats undo (set_fault.Prepare why) = IsRefusedSet formats (store_at undo.files) (set_made undo) why
IsSetRefused formats undo (set_fault.Commit why) =
    IsEarly formats (store_at undo.files) (set_made undo) None
    × IsJudged formats (store_at undo.files) (tells_refusal (Err why)) undo.history (replay (store_at undo.files).start undo.history) (set_made undo) (Err why)

-- the record and the keys then: what the get gave
pub record IsUnset (formats : Formats) (undo : Undo) (left : Record) (after : KeyMap) (why : SetFault) : Type 0 where
  pub got : IsGot undo
  pub can : CanRefuse why
  pub refused : IsSetRefused formats undo why
  pub left_is : left ≡ rec_got undo
  pub after_is : after ≡ keys_got undo

-- its set is the next commit, and changes just the inverse. The keys are those that were stored, and the record keeps
-- of the touched mounts what they have
pub record IsTakenBack (formats : Formats) (undo : Undo) (left : Record) (after : KeyMap) (number aside : ℕ) : Type 0 where
  pub got : IsGot undo
  pub early : IsEarly formats (store_at undo.files) (set_made undo) None
  pub judged : IsJudged formats (store_at undo.files) false undo.history (replay (store_at undo.files).start undo.history) (set_made undo) (Ok (done.Committed number aside))
  pub changes : map.entries (set_made undo).changes ≡ inverse (store_at undo.files).start undo.history undo.number
  pub left_is : left
      ≡ record_by (store_at undo.files) undo.history (set_made undo) (Ok (done.Committed number aside)) (rec_got undo)
  pub after_is : after ≡ keys_made undo

-- An undoing by some record and some keys leaves these and answers this. It is refused where no commit has the number;
-- where a later commit overtakes it; where a mount that the parent involves is bad; and where its set is: in this
-- order. Behind the first three and after want of memory the record and the keys are as before. What isn't refused is a
-- commit, and never nothing to do
abbrev pub IsUndoneBy : Formats → Undo → KeyMap → Record → KeyMap → Result Done UndoFault → Type 0
IsUndoneBy formats undo keys left after (Ok (done.Committed number aside)) =
    IsTakenBack formats undo left after number aside
IsUndoneBy formats undo keys left after (Ok (done.Same front aside)) = ⊥
IsUndoneBy formats undo keys left after (Err (undo_fault.Set why)) = IsUnset formats undo left after why
IsUndoneBy formats undo keys left after (Err why) = IsBarred undo why × (left ≡ undo.rec) × (after ≡ keys)

-- ---- by a handle

-- what an answer adds to the story: what the commit of the set adds, where one was tried
abbrev pub told_by_undo : Prepared → Result Done UndoFault → List Told
told_by_undo set (Ok made) = told_by set (Ok made)
told_by_undo set (Err (undo_fault.Set (set_fault.Commit why))) = told_by set (Err why)
told_by_undo set (Err why) = []

-- the undoing of a commit by a handle, at a story
abbrev pub undo_by : List MountedFile → HandleValue → List Told → ℕ → Undo
undo_by files old found number =
    record {
      files = files;
      handle = old.number;
      procs = proc_of old.rec;
      rec = record_of old.rec;
      history = commits_of found;
      number = number;
    }

-- A handle's turn with an undoing. It found a story that begins with all that the handle had seen, and that has of its
-- number just what it made. Its history is legal, and decides the answer, the record and the keys. The story gains what
-- its set told, and so do what the handle has seen and what it made; or nothing
pub record IsUndone (formats : Formats) (files : List MountedFile) (old new : HandleValue) (number : ℕ) (keys after : KeyMap) (result : Result Done UndoFault) : Type 0 where
  pub found : List Told
  pub seen : IsPrefix old.seen found
  pub own : made_by maker_of old.number found ≡ old.own
  pub legal : IsLegal formats (store_at files) (commits_of found)
  pub undone : IsUndoneBy formats (undo_by files old found number) keys (record_of new.rec) after result
  pub sees : new.seen ≡ found ++ told_by_undo (set_made (undo_by files old found number)) result
  pub gains : new.own ≡ old.own ++ told_by_undo (set_made (undo_by files old found number)) result
