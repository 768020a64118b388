-- How a watch stands for what a session watches: while more is seen, when it looks at all of that, and when it tells
-- what it has to tell.
use Rattle.std.proofs.Common.{◌≡◌, ℕ, ◌+◌, ◌-◌, List, [], length, Option, Some, None, sym, ap, ap₂, ◌∙◌, arith}
use Rattle.std.proofs.lemmas.List.{drop_all}
use Rattle.circular_buffer.specs.Buffer.{keep_last}
use mathlib.Core.List.{IsPrefix}
use Rattle.batch_run.specs.Watching.{HasLooked, IsWithin, StandsFor}
use Rattle.batch_run.proofs.CommitNumbers.{longer-commits}
use Rattle.kdb_handle.specs.Story.{Told, commits_of}
use Rattle.model_batch.specs.Sessions.{Watching}
use Rattle.model_batch.specs.Watches.{changes_then, news_then}
use Rattle.model_history.specs.History.{Commit}
use Rattle.model_names.specs.Name.{Name}
use Rattle.seat_lock.proofs.Prefixes.{prefix-length, prefix-self, prefix-trans}
use Rattle.watch_feed.specs.News.{news}
use Rattle.watch_feed.specs.Watches.{WatchValue, collected, news_of, polled, watching as fresh_watch}
use Rattle.watch_feed.specs.declared.news.Changed.{Changed}
use Rattle.watch_feed.specs.declared.news.News.{News}
use Rattle.watch_feed.proofs.NewsLemmas.{news-none}
use Rattle.watch_feed.proofs.WatchLemmas.{collected-twice}

-- ---- while more is seen

pub looked-more : (history longer : List Commit) (watch : WatchValue) (watched : Watching) → IsPrefix history longer
    → HasLooked history watch watched → HasLooked longer watch watched
looked-more history longer watch watched p h =
    record {
      past = h.past;
      begins = prefix-trans h.past history longer h.begins p;
      from = h.from;
      watch_is = h.watch_is;
    }

pub stands-more : (history longer : List Commit) (watch : Option WatchValue) (watched : Option Watching)
    → IsPrefix history longer → StandsFor history watch watched → StandsFor longer watch watched
stands-more history longer None None p h = tt
stands-more history longer None (Some watched) p h = absurd h
stands-more history longer (Some watch) None p h = absurd h
stands-more history longer (Some watch) (Some watched) p h = looked-more history longer watch watched p h

pub within-more : (seen longer : List Told) (watch : Option WatchValue) → IsPrefix seen longer → IsWithin seen watch
    → IsWithin longer watch
within-more seen longer None p h = tt
within-more seen longer (Some watch) p h = omega (arith, h, longer-commits seen longer p)

-- one that stands for something has looked at no more than was seen
pub stands-within : (seen : List Told) (watch : Option WatchValue) (watched : Option Watching)
    → StandsFor (commits_of seen) watch watched → IsWithin seen watch
stands-within seen None watched h = tt
stands-within seen (Some watch) None h = absurd h
stands-within seen (Some watch) (Some watched) h =
    omega (arith, ap (λ (w : WatchValue). w.front) h.watch_is, prefix-length h.past (commits_of seen) h.begins)

-- ---- when it looks

-- a fresh one has nothing more to tell of the commits that it begins behind
pub fresh-again : (history : List Commit) (parent : Name) (room : ℕ)
    → fresh_watch parent room (length history) ≡ collected (fresh_watch parent room (length history)) history
fresh-again history parent room =
    let none : news history (length history) (length history) parent ≡ [] = news-none parent history (length history) in
    let made : List Changed → ℕ → WatchValue = λ ring missed. record { parent = parent; room = room; front = length history; ring = ring; missed = missed } in
    let told : List Changed → WatchValue = λ l. made (keep_last room l) (0 + (length l - room)) in
    let no_more : 0 ≡ 0 + (0 - room) = omega arith in
    let nothing : ◌≡◌ {A = List Changed} [] (keep_last room []) = sym (drop_all (0 - room) [] (omega arith)) in
    ap₂ made nothing no_more ∙ sym (ap told none)

module _ (history longer : List Commit) (watch : WatchValue) (watched : Watching) (p : IsPrefix history longer) (h : HasLooked history watch watched) where
  -- it has looked at all since
  looked-is : collected watch longer ≡ collected (fresh_watch watched.parent watched.room watched.from) longer
  looked-is =
      ap (λ (w : WatchValue). collected w longer) h.watch_is
      ∙ collected-twice (fresh_watch watched.parent watched.room watched.from) h.past longer h.from (prefix-trans h.past history longer h.begins p)

  pub looked-on : HasLooked longer (collected watch longer) watched
  looked-on = record {
    past = longer;
    begins = prefix-self longer;
    from = omega (arith, h.from, prefix-length h.past history h.begins, prefix-length history longer p);
    watch_is = looked-is;
  }

  -- what it has to tell then
  pub looked-news : news_of (collected watch longer) ≡ news_then watched longer
  looked-news =
      let all : List Changed = changes_then watched longer in
      let made : ℕ → News = λ missed. record { front = length longer; missed = missed; changes = keep_last watched.room all } in
      let none : 0 + (length all - watched.room) ≡ length all - watched.room = omega arith in
      ap news_of looked-is ∙ ap made none

  -- and behind that it is a fresh one
  pub looked-polled : HasLooked longer (polled (collected watch longer)) (record watched { from = length longer })
  looked-polled = record {
    past = longer;
    begins = prefix-self longer;
    from = omega arith;
    watch_is = ap polled looked-is ∙ fresh-again longer watched.parent watched.room;
  }
