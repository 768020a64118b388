-- What a set of some keys at a parent means to a session, by the history that the store comes to have. The first so
-- many commits are a list with which that history begins. (This project's own.)
use Rattle.std.specs.Prelude.{◌≡◌, ◌≢◌, ◌⊎◌, ℕ, ◌+◌, ◌≤◌, List, [], ◌∷◌, ◌++◌, length, None, Result, Ok, Err}
use mathlib.Core.List.{IsPrefix}
use Rattle.kdb_handle.specs.Sets.{tells_refusal}
use Rattle.kdb_handle.specs.declared.replies.Reply.{Reply}
use Rattle.kdb_handle.specs.declared.replies.Reply.TheVariants as reply
use Rattle.kdb_handle.specs.declared.setting.SetFault.TheVariants as set_fault
use Rattle.model_batch.specs.Replies.{set_reply}
use Rattle.model_batch.specs.Sessions.{Session}
use Rattle.model_history.specs.History.{Commit, replay}
use Rattle.model_maps.specs.KeyMap.{KeyMap}
use Rattle.model_names.specs.Name.{Name}
use Rattle.model_store.specs.Cores.{keeping, storing}
use Rattle.model_store.specs.Records.{Record}
use Rattle.model_store.specs.Sets.{Prepared, prepared, wants}
use Rattle.model_store.specs.Store.{Store, Formats, points_of}
use Rattle.model_store.specs.Verdicts.{IsEarly, commit_of}
use Rattle.store_core.specs.Answers.{IsJudged}
use Rattle.store_core.specs.declared.committing.CommitFault.{CommitFault}
use Rattle.store_core.specs.declared.committing.CommitFault.TheVariants.{Conflict, FileTooLarge, Invalid, DatabaseFull, HistoryFull, DiskFault, Memory}
use Rattle.store_core.specs.declared.committing.Done.{Done}
use Rattle.store_core.specs.declared.committing.Done.TheVariants.{Committed, Same}
use Rattle.store_verdict.specs.Preparing.{IsRefused}
use Rattle.store_verdict.specs.declared.faults.PrepareFault.{PrepareFault}
use Rattle.store_verdict.specs.declared.faults.PrepareFault.TheVariants as early_fault

-- want of memory: such a reply, and the session is as it was
pub record Lacks (memory : Reply) (old : Session) (answer : Reply) (new : Session) : Type 0 where
  pub reply_is : answer ≡ memory
  pub new_is : new ≡ old

-- what a record keeps of some mounts then: the number of the commits, and what the mounts own after them
abbrev pub kept_then : Store → List Commit → List ℕ → Record → Record
kept_then store past mounts rec = keeping mounts (length past) (wants (points_of store) (replay store.start past)) rec

-- a record after an answer: on a commit it keeps what was wanted for each touched mount, with the commit's number where
-- the mount counts by its backend
abbrev pub record_then : Store → List Commit → Prepared → Result Done CommitFault → Record → Record
record_then store past set (Ok (Committed number aside)) rec =
    storing store set.touched (length past + 1) (wants (points_of store) set.keys) rec
record_then store past set (Ok (Same front aside)) rec = rec
record_then store past set (Err why) rec = rec

-- of how many commits an answer has told
abbrev pub told_then : Result Done CommitFault → ℕ → ℕ
told_then (Ok (Committed number aside)) told = number
told_then (Ok (Same front aside)) told = front
told_then (Err (Conflict mount by front)) told = front
told_then (Err (FileTooLarge mount bytes front)) told = front
told_then (Err (Invalid violation front)) told = front
told_then (Err (DatabaseFull weight front)) told = front
told_then (Err (HistoryFull weight front)) told = front
told_then (Err (DiskFault front)) told = front
told_then (Err Memory) told = told

-- the history begins with the commits by which a set was judged, and behind them stands the commit that it became
abbrev pub StandsNext : List Commit → List Commit → Prepared → Result Done CommitFault → Type 0
StandsNext history past set (Ok (Committed number aside)) = IsPrefix (past ++ commit_of set ∷ []) history
StandsNext history past set (Ok (Same front aside)) = IsPrefix past history
StandsNext history past set (Err why) = IsPrefix past history

-- the set that a session's record makes
abbrev pub set_by : Store → ℕ → Session → Name → KeyMap → Prepared
set_by store number session parent keys = prepared (points_of store) number session.rec parent keys

-- The set is judged by the first so many commits, no fewer than the session was told of, and passes all that needs no
-- history. The answer tells their number; a commit is the next one. A pattern was refused only where the answer tells
-- it; and the disk fails only in the place of a commit
pub record IsJudgedThen (formats : Formats) (store : Store) (number : ℕ) (history : List Commit) (parent : Name) (keys : KeyMap) (old : Session) (answer : Reply) (new : Session) : Type 0 where
  pub past : List Commit
  pub no_less : old.told ≤ length past
  pub result : Result Done CommitFault
  pub known : result ≢ Err Memory
  pub early : IsEarly formats store (set_by store number old parent keys) None
  pub judged : IsJudged formats store (tells_refusal result) past (replay store.start past) (set_by store number old parent keys) result
  pub stands : StandsNext history past (set_by store number old parent keys) result
  pub reply_is : answer ≡ set_reply result
  pub new_is : new
      ≡ record old { rec = record_then store past (set_by store number old parent keys) result old.rec; told = told_then result old.told }

-- the set is refused by what needs no history
pub record IsUnprepared (formats : Formats) (store : Store) (number : ℕ) (parent : Name) (keys : KeyMap) (old : Session) (answer : Reply) (new : Session) : Type 0 where
  pub why : PrepareFault
  pub refused : IsRefused formats store number old.rec parent keys why
  pub reply_is : answer ≡ reply.SetRefused (set_fault.Prepare why)
  pub new_is : new ≡ old

-- what a set of some keys at a parent means: it is judged, or refused before; or there is no memory. The working set
-- stays
abbrev pub MeansSet : Formats → Store → ℕ → List Commit → Name → KeyMap → Session → Reply → Session → Type 0
MeansSet formats store number history parent keys old answer new =
    IsJudgedThen formats store number history parent keys old answer new
    ⊎ (IsUnprepared formats store number parent keys old answer new
    ⊎ (Lacks (reply.SetRefused (set_fault.Commit Memory)) old answer new
    ⊎ (Lacks (reply.SetRefused (set_fault.Prepare early_fault.Memory)) old answer new
    ⊎ Lacks reply.Memory old answer new)))
