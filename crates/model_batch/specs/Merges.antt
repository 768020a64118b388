-- What a merged set means to a session: tries one after another, each a set that met a conflict and the get behind it,
-- and then an end. Each set and each get means what such a step would mean, but that the working set stays meanwhile.
-- (This project's own.)
use Rattle.std.specs.Prelude.{◌≡◌, ℕ, ◌≤◌, List, length, None, Result, Err}
use mathlib.Core.List.{IsPrefix}
use Rattle.key_merge.specs.declared.strategies.Strategy.{Strategy}
use Rattle.kdb_handle.specs.Opened.{store_at}
use Rattle.kdb_handle.specs.Remaking.{IsEndBy, IsKept, IsMergedBy}
use Rattle.kdb_handle.specs.declared.merging.MergeEnd.{MergeEnd}
use Rattle.kdb_handle.specs.declared.merging.Tried.{Tried}
use Rattle.kdb_handle.specs.declared.replies.Reply.{Reply}
use Rattle.kdb_handle.specs.declared.setting.SetFault.{SetFault}
use Rattle.model_batch.specs.Replies.{merge_reply, set_reply, stored_reply}
use Rattle.model_batch.specs.Sessions.{Session}
use Rattle.model_batch.specs.Sets.{IsJudgedThen, MeansSet, kept_then}
use Rattle.model_history.specs.History.{Commit, replay}
use Rattle.model_maps.specs.KeyMap.{KeyMap}
use Rattle.model_names.specs.Name.{Name}
use Rattle.model_store.specs.Events.{first_bad}
use Rattle.model_store.specs.Store.{Formats, points_of}
use Rattle.mounted_files.specs.declared.files.MountedFile.{MountedFile}
use Rattle.set_split.specs.Involved.{involved_in}
use Rattle.set_split.specs.Parts.{in_reach}
use Rattle.store_core.specs.declared.committing.CommitFault.TheVariants.{Conflict}
use Rattle.store_core.specs.declared.committing.Done.{Done}

-- A set that met the conflict of an item, and the get behind it, which finds no fewer commits. The base is what the
-- record kept of the involved mounts before that get, and theirs is what these mounts have in the commits that it found
pub record Retries (formats : Formats) (files : List MountedFile) (number : ℕ) (history : List Commit) (parent : Name) (old : Session) (ours : KeyMap) (item : Tried) (new : Session) (base theirs : KeyMap) : Type 0 where
  pub mid : Session
  pub conflict : IsJudgedThen formats (store_at files) number history parent ours old (set_reply (Err (Conflict item.mount item.by item.front))) mid
  pub base_is : IsKept (points_of (store_at files)) parent mid.rec base
  pub past : List Commit
  pub begins : IsPrefix past history
  pub no_less : mid.told ≤ length past
  pub good : first_bad (store_at files) parent ≡ None
  pub again : item.again ≡ length past
  pub theirs_is : theirs ≡ in_reach (points_of (store_at files)) parent (replay (store_at files).start past)
  pub new_is : new
      ≡ record mid { rec = kept_then (store_at files) past (involved_in (points_of (store_at files)) parent) mid.rec; told = length past }

-- a set of some keys on the way, which a session tells to nobody yet
abbrev pub SetsSo : Formats → List MountedFile → ℕ → List Commit → Name → Session → Session → KeyMap → Result Done SetFault → Type 0
SetsSo formats files number history parent old new keys result =
    MeansSet formats (store_at files) number history parent keys old (stored_reply result) new

-- nothing was done
abbrev pub Stays : Session → Session → Type 0
Stays old new = new ≡ old

-- how a session's tries end
abbrev pub EndsSo : Formats → List MountedFile → ℕ → List Commit → Name → Strategy → ℕ → Session → KeyMap → List Tried → Session → List Tried → Result Done MergeEnd → Type 0
EndsSo formats files number history parent =
    IsEndBy (Retries formats files number history parent) (SetsSo formats files number history parent) Stays (points_of (store_at files)) parent

-- The working set is set in so many tries, and becomes what was set. Where it isn't set it stays, and all else of the
-- session is as after the gets of the tries
pub record Merges (formats : Formats) (files : List MountedFile) (number : ℕ) (history : List Commit) (parent : Name) (strategy : Strategy) (tries : ℕ) (old : Session) (answer : Reply) (new : Session) : Type 0 where
  pub tried : List Tried
  pub end : Result Done MergeEnd
  pub after : Session
  pub keys : KeyMap
  pub merged : IsMergedBy (Retries formats files number history parent) (SetsSo formats files number history parent) Stays (points_of (store_at files)) parent strategy tries old old.working after keys tried end
  pub reply_is : answer ≡ merge_reply tried end
  pub new_is : new ≡ record after { working = keys }
