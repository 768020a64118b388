-- What a handle's commit does, by the history that its turn found. (This project's own.)
use Rattle.std.specs.Prelude.{◌≡◌, Bool, false, List, ◌++◌, Result, Ok, Err}
use mathlib.Core.List.{IsPrefix}
use Rattle.general_words.specs.Memory.{UnlessMemory}
use Rattle.kdb_handle.specs.Handles.{HandleValue}
use Rattle.kdb_handle.specs.Opened.{store_at}
use Rattle.kdb_handle.specs.Story.{Told, maker_of, commits_of}
use Rattle.kdb_handle.specs.Turns.{told_by, is_refusal, record_by}
use Rattle.kdb_handle.specs.declared.setting.SetFault.{SetFault}
use Rattle.kdb_handle.specs.declared.setting.SetFault.TheVariants as set_fault
use Rattle.model_history.specs.History.{replay}
use Rattle.model_maps.specs.KeyMap.{KeyMap}
use Rattle.model_names.specs.Name.{Name}
use Rattle.model_store.specs.Legal.{IsLegal}
use Rattle.model_store.specs.Store.{Formats}
use Rattle.mounted_files.specs.declared.files.MountedFile.{MountedFile}
use Rattle.seat_lock.specs.Story.{made_by}
use Rattle.store_core.specs.Answers.{IsJudged}
use Rattle.store_core.specs.declared.committing.CommitFault.{CommitFault}
use Rattle.store_core.specs.declared.committing.CommitFault.TheVariants as commit_fault
use Rattle.store_core.specs.declared.committing.Done.{Done}
use Rattle.store_verdict.specs.Preparing.{IsMade, IsRefused}
use Rattle.store_verdict.specs.PreparedView.{prepared_of}
use Rattle.store_verdict.specs.RecordView.{record_of}
use Rattle.store_verdict.specs.declared.faults.PrepareFault.TheVariants as fault
use Rattle.store_verdict.specs.declared.prepared.Prepared.{Prepared}

-- an answer tells of a pattern that the matcher refused
abbrev pub tells_refusal : Result Done CommitFault → Bool
tells_refusal (Ok done) = false
tells_refusal (Err (commit_fault.Conflict mount by front)) = false
tells_refusal (Err (commit_fault.FileTooLarge mount bytes front)) = false
tells_refusal (Err (commit_fault.Invalid violation front)) = is_refusal violation
tells_refusal (Err (commit_fault.DatabaseFull weight front)) = false
tells_refusal (Err (commit_fault.HistoryFull weight front)) = false
tells_refusal (Err (commit_fault.DiskFault front)) = false
tells_refusal (Err commit_fault.Memory) = false

-- A handle's turn with a set. It found a story that begins with all that the handle had seen, and that has of its
-- number just what it made. Its history is legal, and decides the answer, with the rules: no pattern was refused for it
-- but one that it tells. The story gains a commit, or that the set failed, or that a pattern of it was refused, and so
-- do what the handle has seen and what it made; or nothing
pub record IsDone (formats : Formats) (files : List MountedFile) (old new : HandleValue) (set : Prepared) (result : Result Done CommitFault) : Type 0 where
  pub found : List Told
  pub seen : IsPrefix old.seen found
  pub own : made_by maker_of old.number found ≡ old.own
  pub legal : IsLegal formats (store_at files) (commits_of found)
  pub judged : IsJudged formats (store_at files) (tells_refusal result) (commits_of found) (replay (store_at files).start (commits_of found)) (prepared_of set) result
  pub sees : new.seen ≡ found ++ told_by (prepared_of set) result
  pub gains : new.own ≡ old.own ++ told_by (prepared_of set) result
  pub kept : record_of new.rec
      ≡ record_by (store_at files) (commits_of found) (prepared_of set) result (record_of old.rec)

-- some keys at a parent make a set, which was committed with an answer
pub record IsStored (formats : Formats) (files : List MountedFile) (old new : HandleValue) (parent : Name) (keys : KeyMap) (result : Result Done CommitFault) : Type 0 where
  pub set : Prepared
  pub made : IsMade formats (store_at files) old.number (record_of old.rec) parent keys set
  pub done : IsDone formats files old new set result

-- the answer to a set of some keys at a parent; one that isn't prepared takes no turn
abbrev pub IsSet : Formats → List MountedFile → HandleValue → HandleValue → Name → KeyMap → Result Done SetFault → Type 0
IsSet formats files old new parent keys (Ok done) = IsStored formats files old new parent keys (Ok done)
IsSet formats files old new parent keys (Err (set_fault.Commit why)) =
    IsStored formats files old new parent keys (Err why)
IsSet formats files old new parent keys (Err (set_fault.Prepare why)) =
    (new ≡ old) × UnlessMemory fault.Memory (IsRefused formats (store_at files) old.number (record_of old.rec) parent keys why) why
