-- What one step of a session means, by the history that the store comes to have: what it replies, and what of the
-- session changes. A later kind of step is one more case. (This project's own.)
use Rattle.std.specs.Prelude.{◌≡◌, ◌⊎◌, ℕ, ◌≤◌, List, length, Some, None}
use Rattle.std.specs.FinMap as map
use mathlib.Core.List.{IsPrefix}
use Rattle.batch_script.specs.declared.steps.Step.{Step}
use Rattle.batch_script.specs.declared.steps.Step.TheVariants.{Get, Put, MetaStep, Del, Cut, Look, Set, Merge, Watch, Poll, Undo}
use Rattle.kdb_handle.specs.Opened.{store_at}
use Rattle.kdb_handle.specs.declared.replies.Reply.{Reply}
use Rattle.kdb_handle.specs.declared.replies.Reply.TheVariants as reply
use Rattle.kdb_handle.specs.declared.undoing.UndoFault.TheVariants as undo_fault
use Rattle.key_edits.specs.Edits.{put_meta, put_value}
use Rattle.model_batch.specs.Merges.{Merges}
use Rattle.model_batch.specs.Replies.{look_reply}
use Rattle.model_batch.specs.Sessions.{Session}
use Rattle.model_batch.specs.Sets.{Lacks, MeansSet, kept_then}
use Rattle.model_batch.specs.Undos.{Undoes}
use Rattle.model_batch.specs.Watches.{IsUnwatched, Polls, Watches}
use Rattle.model_history.specs.History.{Commit, replay}
use Rattle.model_maps.specs.KeyMap.{KeyMap, not_below}
use Rattle.model_names.specs.Name.{Name}
use Rattle.model_specified.specs.Specified.{specified}
use Rattle.model_store.specs.Events.{first_bad, got}
use Rattle.model_store.specs.Store.{Formats, points_of, store_of}
use Rattle.mounted_files.specs.declared.files.MountedFile.{MountedFile}
use Rattle.mounted_files.specs.declared.refusals.GetFault.{GetFault}
use Rattle.mounted_files.specs.declared.refusals.GetFault.TheVariants as get_fault
use Rattle.set_split.specs.Involved.{involved_in}
use Rattle.spec_cascade.specs.Found.{found}
use Rattle.store_core.specs.Gets.{fault_at}

-- what a get of a parent gives after some commits, where the handle has these keys in `proc`
abbrev pub got_then : List MountedFile → KeyMap → ℕ → List Commit → Name → KeyMap
got_then files procs number past parent =
    got (store_of files (λ r. procs)) (replay (store_at files).start past) number parent

-- no involved mount is bad, and the working set becomes the keys after the first so many commits, no fewer than the
-- session was told of
pub record Gets (files : List MountedFile) (procs : KeyMap) (number : ℕ) (history : List Commit) (parent : Name) (old : Session) (answer : Reply) (new : Session) : Type 0 where
  pub past : List Commit
  pub begins : IsPrefix past history
  pub no_less : old.told ≤ length past
  pub good : first_bad (store_at files) parent ≡ None
  pub reply_is : answer ≡ reply.Got (length past) (length (map.entries (got_then files procs number past parent)))
  pub new_is : new ≡ record old {
    working = got_then files procs number past parent;
    rec = kept_then (store_at files) past (involved_in (points_of (store_at files)) parent) old.rec;
    told = length past;
  }

-- the first involved mount that is bad is told with its cause
pub record IsBad (files : List MountedFile) (parent : Name) (old : Session) (answer : Reply) (new : Session) : Type 0 where
  pub mount : ℕ
  pub why : GetFault
  pub bad : first_bad (store_at files) parent ≡ Some mount
  pub cause : fault_at files mount ≡ Some why
  pub reply_is : answer ≡ reply.GetRefused why
  pub new_is : new ≡ old

-- the working set becomes this one
pub record Edits (edited : KeyMap) (old : Session) (answer : Reply) (new : Session) : Type 0 where
  pub reply_is : answer ≡ reply.Quiet
  pub new_is : new ≡ record old { working = edited }

-- a name is looked up in what the working set comes to under its specifications
pub record Looks (name : Name) (old : Session) (answer : Reply) (new : Session) : Type 0 where
  pub reply_is : answer ≡ look_reply (found (specified old.working) name)
  pub new_is : new ≡ old

-- a step of the session of a handle, which was opened with these keys in `proc`, over a store of these files
abbrev pub Means : Formats → List MountedFile → KeyMap → ℕ → List Commit → Session → Step → Reply → Session → Type 0
Means formats files procs number history old (Get parent) answer new =
    Gets files procs number history parent old answer new
    ⊎ (IsBad files parent old answer new ⊎ (Lacks (reply.GetRefused get_fault.Memory) old answer new ⊎ Lacks reply.Memory old answer new))
Means formats files procs number history old (Put name value) answer new =
    Edits (put_value old.working name value) old answer new ⊎ Lacks reply.Memory old answer new
Means formats files procs number history old (MetaStep name meta value) answer new =
    Edits (put_meta old.working name meta value) old answer new ⊎ Lacks reply.Memory old answer new
Means formats files procs number history old (Del name) answer new =
    Edits (map.remove old.working name) old answer new ⊎ Lacks reply.Memory old answer new
Means formats files procs number history old (Cut name) answer new =
    Edits (not_below name old.working) old answer new ⊎ Lacks reply.Memory old answer new
Means formats files procs number history old (Look name) answer new =
    Looks name old answer new ⊎ Lacks reply.Memory old answer new
Means formats files procs number history old (Set parent) answer new =
    MeansSet formats (store_at files) number history parent old.working old answer new
Means formats files procs number history old (Merge parent strategy tries) answer new =
    Merges formats files number history parent strategy tries old answer new ⊎ Lacks reply.Memory old answer new
Means formats files procs number history old (Watch parent room) answer new =
    Watches history parent room old answer new ⊎ Lacks reply.Memory old answer new
Means formats files procs number history old Poll answer new =
    IsUnwatched old answer new ⊎ (Polls history old answer new ⊎ Lacks reply.Memory old answer new)
Means formats files procs number history old (Undo undone) answer new =
    Undoes formats files procs number history undone old answer new ⊎ (Lacks (reply.UndoRefused undo_fault.Memory) old answer new ⊎ Lacks reply.Memory old answer new)
