-- Polls of a watch, one after the other. (This project's own.)
use Rattle.std.specs.Prelude.{◌≡◌, ℕ, ◌<◌, ◌≤◌, List, [], ◌∷◌, ◌++◌, length, take}
use Rattle.model_history.specs.History.{Commit}
use Rattle.watch_feed.specs.Watches.{WatchValue, collected, news_of, polled}
use Rattle.watch_feed.specs.declared.news.Changed.{Changed}
use Rattle.watch_feed.specs.declared.news.News.{News}

-- what polls hand out where the watch looks, before each, at as much of a history as there is then
abbrev pub polls : List Commit → WatchValue → List ℕ → List News
polls history watch [] = []
polls history watch (front ∷ fronts) =
    news_of (collected watch (take front history)) ∷ polls history (polled (collected watch (take front history))) fronts

-- these numbers of commits don't fall, from a first one on, and the history has as many
abbrev pub AreFronts : List Commit → ℕ → List ℕ → Type 0
AreFronts history from [] = Unit {0}
AreFronts history from (front ∷ fronts) = (from ≤ front) × (front ≤ length history) × AreFronts history front fronts

-- the last of them
abbrev pub last_front : ℕ → List ℕ → ℕ
last_front from [] = from
last_front from (front ∷ fronts) = last_front front fronts

-- of some changes a poll counts the first as missed, tells those behind them, and leaves the rest for later. It misses
-- none where it has room for more
pub record IsTold (room : ℕ) (changes missed rest : List Changed) (poll : News) : Type 0 where
  pub all : changes ≡ missed ++ (poll.changes ++ rest)
  pub count : poll.missed ≡ length missed
  pub full : 0 < length missed → length poll.changes ≡ room

-- polls, one after the other, tell each of some changes once, in order, or count it as missed
abbrev pub AreTold : ℕ → List Changed → List News → Type 0
AreTold room changes [] = changes ≡ []
AreTold room changes (poll ∷ later) =
    (missed : List Changed) × (rest : List Changed) × IsTold room changes missed rest poll × AreTold room rest later
