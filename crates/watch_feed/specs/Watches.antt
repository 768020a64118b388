-- What a watch is to its callers, and what becomes of it. (This project's own.)
use Rattle.std.specs.Prelude.{ℕ, ◌+◌, ◌-◌, List, [], ◌++◌, length, refl}
use Rattle.std.specs.Coded.{Coded, code_by, coded×, coded_list, coded_ℕ}
use Rattle.circular_buffer.specs.Buffer.{keep_last}
use Rattle.model_names.specs.Name.{Name, coded_name}
use Rattle.model_history.specs.History.{Commit}
use Rattle.watch_feed.specs.News.{coded_changed, news}
use Rattle.watch_feed.specs.declared.news.Changed.{Changed}
use Rattle.watch_feed.specs.declared.news.News.{News}

-- the most changes that a watch may have room for
abbrev pub most_room : ℕ
most_room = 4096

-- which names it is told of, how many changes it has room for, how many commits it has looked at, what it has to tell,
-- and how many changes it left out
pub record WatchValue : Type 0 where
  pub parent : Name
  pub room : ℕ
  pub front : ℕ
  pub ring : List Changed
  pub missed : ℕ

-- how a proof tells watches apart
abbrev pub coded_watch : Coded WatchValue
coded_watch =
    code_by ((Name × (ℕ × ℕ)) × (List Changed × ℕ)) (coded× (coded× coded_name (coded× coded_ℕ coded_ℕ)) (coded× (coded_list coded_changed) coded_ℕ))
    (λ w. ((w.parent, (w.room, w.front)), (w.ring, w.missed))) (λ p. record { parent = p.0.0; room = p.0.1.0; front = p.0.1.1; ring = p.1.0; missed = p.1.1 }) (λ _. refl)

-- a watch that has looked at the commits up to a front, and has nothing to tell
abbrev pub watching : Name → ℕ → ℕ → WatchValue
watching parent room front = record { parent = parent; room = room; front = front; ring = []; missed = 0 }

-- a watch with more to tell: it keeps the last changes, as many as it has room for, and counts the others
abbrev pub with_told : WatchValue → List Changed → WatchValue
with_told watch told =
    record watch { ring = keep_last watch.room (watch.ring ++ told); missed = watch.missed + (length (watch.ring ++ told) - watch.room) }

-- a watch that has looked at a history
abbrev pub collected : WatchValue → List Commit → WatchValue
collected watch history =
    record (with_told watch (news history watch.front (length history) watch.parent)) { front = length history }

-- what it hands out, and how it is behind that
abbrev pub news_of : WatchValue → News
news_of watch = record { front = watch.front; missed = watch.missed; changes = watch.ring }

abbrev pub polled : WatchValue → WatchValue
polled watch = record watch { ring = []; missed = 0 }
