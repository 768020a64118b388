-- What watching means to a session, by the history that the store comes to have: a watch begins, and polls tell what
-- changed since. (This project's own.)
use Rattle.std.specs.Prelude.{◌≡◌, ℕ, ◌-◌, ◌≤◌, Bool, true, false, List, [], ◌∷◌, length, Some, None}
use Rattle.std.specs.List.{flat_map}
use Rattle.circular_buffer.specs.Buffer.{keep_last}
use mathlib.Core.List.{IsPrefix}
use Rattle.kdb_handle.specs.declared.replies.Reply.{Reply}
use Rattle.kdb_handle.specs.declared.replies.Reply.TheVariants as reply
use Rattle.model_batch.specs.Sessions.{Session, Watching}
use Rattle.model_history.specs.History.{Commit}
use Rattle.model_names.specs.Name.{Name}
use Rattle.watch_feed.specs.News.{news}
use Rattle.watch_feed.specs.Polls.{AreTold}
use Rattle.watch_feed.specs.declared.news.Changed.{Changed}
use Rattle.watch_feed.specs.declared.news.News.{News}

-- The session watches a parent from behind the first so many commits on, no fewer than it was told of. What it watched
-- before it watches no more
pub record Watches (history : List Commit) (parent : Name) (room : ℕ) (old : Session) (answer : Reply) (new : Session) : Type 0 where
  pub past : List Commit
  pub begins : IsPrefix past history
  pub no_less : old.told ≤ length past
  pub reply_is : answer ≡ reply.Watching (length past)
  pub new_is : new
      ≡ record old { told = length past; watching = Some (record { parent = parent; room = room; from = length past }) }

-- all that changed since in the first so many commits
abbrev pub changes_then : Watching → List Commit → List Changed
changes_then watched past = news past watched.from (length past) watched.parent

-- what is told of that: the last changes, as many as there is room for, and the number of the others
abbrev pub news_then : Watching → List Commit → News
news_then watched past =
    record {
      front = length past;
      missed = length (changes_then watched past) - watched.room;
      changes = keep_last watched.room (changes_then watched past);
    }

-- The session is told what changed in the first so many commits, no fewer than it was told of, and watches from there
-- on
pub record Polls (history : List Commit) (old : Session) (answer : Reply) (new : Session) : Type 0 where
  pub watched : Watching
  pub is_watched : old.watching ≡ Some watched
  pub past : List Commit
  pub begins : IsPrefix past history
  pub no_less : old.told ≤ length past
  pub reply_is : answer ≡ reply.News (news_then watched past)
  pub new_is : new ≡ record old { told = length past; watching = Some (record watched { from = length past }) }

-- nothing is watched
pub record IsUnwatched (old : Session) (answer : Reply) (new : Session) : Type 0 where
  pub none : old.watching ≡ None
  pub reply_is : answer ≡ reply.NoWatch
  pub new_is : new ≡ old

-- ---- over the replies of a session

-- whether a reply tells that a watch begins
abbrev pub begins_watch : Reply → Bool
begins_watch (reply.Watching front) = true
begins_watch other = false

-- the news that a reply tells
abbrev pub news_told : Reply → List News
news_told (reply.News told) = told ∷ []
news_told other = []

-- The session still watches the same parent with the same room, from behind no fewer commits; and the news that it was
-- told tell each change between once, in order, or count it as missed
pub record Follows (history : List Commit) (watched : Watching) (answers : List Reply) (new : Session) : Type 0 where
  pub to : ℕ
  pub no_less : watched.from ≤ to
  pub within : to ≤ length history
  pub watching_is : new.watching ≡ Some (record watched { from = to })
  pub each : AreTold watched.room (news history watched.from to watched.parent) (flat_map news_told answers)
