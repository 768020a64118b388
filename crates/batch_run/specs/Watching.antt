-- How the watch of a session stands for what the session watches, and what the steps of a watch do. (This project's
-- own.)
use Rattle.std.specs.Prelude.{◌≡◌, ◌⊎◌, ℕ, ◌≤◌, List, length, Option, Some, None, IfSome}
use mathlib.Core.List.{IsPrefix}
use Rattle.batch_run.specs.declared.workspaces.Workspace.{Workspace}
use Rattle.kdb_handle.specs.Handles.{HandleValue}
use Rattle.kdb_handle.specs.Stores.{IsHandle}
use Rattle.kdb_handle.specs.Story.{Told, commits_of}
use Rattle.kdb_handle.specs.declared.replies.Reply.{Reply}
use Rattle.kdb_handle.specs.declared.replies.Reply.TheVariants as reply
use Rattle.model_batch.specs.Sessions.{Watching}
use Rattle.model_history.specs.History.{Commit}
use Rattle.model_names.specs.Name.{Name}
use Rattle.seat_lock.specs.Known.{Place}
use Rattle.store_core.specs.declared.cores.Plan.{Plan}
use Rattle.watch_feed.specs.Watches.{WatchValue, collected, news_of, polled, watching as fresh_watch}

-- A watch has looked at the first so many commits since the session was last told of some of them. Where a poll found
-- no memory it has more to tell than a fresh one
pub record HasLooked (history : List Commit) (watch : WatchValue) (watched : Watching) : Type 0 where
  pub past : List Commit
  pub begins : IsPrefix past history
  pub from : watched.from ≤ length past
  pub watch_is : watch ≡ collected (fresh_watch watched.parent watched.room watched.from) past

-- there is a watch just where something is watched, and it is one of that
abbrev pub StandsFor : List Commit → Option WatchValue → Option Watching → Type 0
StandsFor history None None = Unit {0}
StandsFor history None (Some watched) = ⊥
StandsFor history (Some watch) None = ⊥
StandsFor history (Some watch) (Some watched) = HasLooked history watch watched

-- a watch has looked at no commit that wasn't seen
abbrev pub IsWithin : List Told → Option WatchValue → Type 0
IsWithin seen watch = IfSome watch (λ it. it.front ≤ length (commits_of seen))

-- a watch of a parent begins behind so many commits; or there was no memory, and what was watched stays
abbrev pub IsWatch : Name → ℕ → ℕ → Workspace → Workspace → Reply → Type 0
IsWatch parent room front before after answer =
    ((answer ≡ reply.Watching front) × (after ≡ record before { watch = Some (fresh_watch parent room front) })) ⊎ ((answer ≡ reply.Memory) × (after ≡ before))

-- a watch tells what it has to tell; or there was no memory, and it stays
abbrev pub IsTelling : WatchValue → WatchValue → Reply → Type 0
IsTelling before after answer =
    ((answer ≡ reply.News (news_of before)) × (after ≡ polled before)) ⊎ ((answer ≡ reply.Memory) × (after ≡ before))

-- A watch has looked at a history, and tells what it has to tell then; or there was no memory to look or to tell, and
-- it may have looked
abbrev pub IsAsked : List Commit → WatchValue → WatchValue → Reply → Type 0
IsAsked history before after answer =
    IsTelling (collected before history) after answer ⊎ ((answer ≡ reply.Memory) × (after ≡ before))

-- a handle took a turn that made nothing: it has seen more, and all else of it stayed
pub record Listens {F : Type 0} (lock : Place Told) (plan : Plan F) (old new : HandleValue) : Type 0 where
  pub handle : IsHandle lock plan new
  pub number : new.number ≡ old.number
  pub rec : new.rec ≡ old.rec
  pub seen : IsPrefix old.seen new.seen
  pub own : new.own ≡ old.own
