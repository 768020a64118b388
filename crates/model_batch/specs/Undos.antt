-- What taking a commit back means to a session, by the history that the store comes to have: it is made and judged by
-- the first so many commits, as the call of a handle is by those that its turn found. (This project's own.)
use Rattle.std.specs.Prelude.{◌≡◌, ◌≢◌, ℕ, ◌≤◌, List, length, Result, Ok, Err}
use mathlib.Core.List.{IsPrefix}
use Rattle.kdb_handle.specs.Opened.{store_at}
use Rattle.kdb_handle.specs.Undoing.{IsUndoneBy, Undo, set_made}
use Rattle.kdb_handle.specs.declared.replies.Reply.{Reply}
use Rattle.kdb_handle.specs.declared.undoing.UndoFault.{UndoFault}
use Rattle.kdb_handle.specs.declared.undoing.UndoFault.TheVariants as undo_fault
use Rattle.model_batch.specs.Replies.{undo_reply}
use Rattle.model_batch.specs.Sessions.{Session}
use Rattle.model_batch.specs.Sets.{StandsNext}
use Rattle.model_history.specs.History.{Commit}
use Rattle.model_maps.specs.KeyMap.{KeyMap}
use Rattle.model_store.specs.Records.{Record}
use Rattle.model_store.specs.Sets.{Prepared}
use Rattle.model_store.specs.Store.{Formats}
use Rattle.mounted_files.specs.declared.files.MountedFile.{MountedFile}
use Rattle.store_core.specs.declared.committing.Done.{Done}
use Rattle.store_core.specs.declared.committing.Done.TheVariants.{Committed, Same}

-- what the undoing of a commit goes by in a session, by the first so many commits
abbrev pub undo_then : List MountedFile → KeyMap → ℕ → Record → List Commit → ℕ → Undo
undo_then files procs number rec past undone =
    record { files = files; handle = number; procs = procs; rec = rec; history = past; number = undone }

-- of how many commits a session knows behind it: of its own, or of those by which it was judged, also where the reply
-- doesn't tell them
abbrev pub undo_told : ℕ → Result Done UndoFault → ℕ
undo_told front (Ok (Committed number aside)) = number
undo_told front (Ok (Same same aside)) = front
undo_told front (Err why) = front

-- the history begins with the commits by which it was judged, and behind them stands the commit that it became
abbrev pub UndoStands : List Commit → List Commit → Prepared → Result Done UndoFault → Type 0
UndoStands history past set (Ok done) = StandsNext history past set (Ok done)
UndoStands history past set (Err why) = IsPrefix past history

-- A commit is taken back by the first so many commits, no fewer than the session knows of. The working set and the
-- record become what a handle's would
pub record Undoes (formats : Formats) (files : List MountedFile) (procs : KeyMap) (number : ℕ) (history : List Commit) (undone : ℕ) (old : Session) (answer : Reply) (new : Session) : Type 0 where
  pub past : List Commit
  pub no_less : old.told ≤ length past
  pub result : Result Done UndoFault
  pub known : result ≢ Err undo_fault.Memory
  pub rec : Record
  pub keys : KeyMap
  pub done : IsUndoneBy formats (undo_then files procs number old.rec past undone) old.working rec keys result
  pub stands : UndoStands history past (set_made (undo_then files procs number old.rec past undone)) result
  pub reply_is : answer ≡ undo_reply result
  pub new_is : new ≡ record old { working = keys; rec = rec; told = undo_told (length past) result }
