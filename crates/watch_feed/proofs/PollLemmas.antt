-- Polls one after the other tell each change once, in order, or count it as missed.
use Rattle.std.proofs.Common.{◌≡◌, ℕ, ◌+◌, ◌-◌, ◌≤◌, List, [], ◌∷◌, ◌++◌, length, take, sym, ap, subst, ◌∙◌, arith, length-drop, length-take, append_assoc, take-append-drop}
use Rattle.circular_buffer.specs.Buffer.{keep_last}
use Rattle.model_history.specs.History.{Commit}
use Rattle.model_names.specs.Name.{Name}
use Rattle.watch_feed.proofs.NewsLemmas.{news-goes_on, news-none, news-shorter}
use Rattle.watch_feed.specs.News.{news}
use Rattle.watch_feed.specs.Polls.{AreFronts, AreTold, IsTold, last_front, polls}
use Rattle.watch_feed.specs.Watches.{watching}
use Rattle.watch_feed.specs.declared.news.Changed.{Changed}

module _ (history : List Commit) where
  front-last : (from : ℕ) (fronts : List ℕ) → AreFronts history from fronts → from ≤ last_front from fronts
  front-last from [] h = omega arith
  front-last from (front ∷ fronts) h = omega (arith, h.0, front-last front fronts h.2)

  last-within : (from : ℕ) (fronts : List ℕ) → from ≤ length history → AreFronts history from fronts
      → last_front from fronts ≤ length history
  last-within from [] le h = le
  last-within from (front ∷ fronts) le h = last-within front fronts h.1 h.2

  module _ (parent : Name) (room : ℕ) where
    pub polls-tell : (from : ℕ) (fronts : List ℕ) → AreFronts history from fronts
        → AreTold room (news history from (last_front from fronts) parent) (polls history (watching parent room from) fronts)
    polls-tell from [] h = news-none parent history from
    polls-tell from (front ∷ fronts) h =
        (take (length told - room) told, later, one, rest (polls-tell front fronts h.2))
      where
        told : List Changed
        told = news (take front history) from (length (take front history)) parent

        later : List Changed
        later = news history front (last_front front fronts) parent

        long : length (take front history) ≡ front
        long = omega (arith, length-take front history, h.1)

        told_is : told ≡ news history from front parent
        told_is = ap (λ n. news (take front history) from n parent) long ∙ news-shorter parent history from front

        one : IsTold room (news history from (last_front front fronts) parent) (take (length told - room) told) later (record { front = length (take front history); missed = 0 + (length told - room); changes = keep_last room told })
        one = record {
          all =
              news-goes_on parent history from front (last_front front fronts) h.0 (front-last front fronts h.2) (last-within front fronts h.1 h.2)
              ∙ ap (λ l. l ++ later) (sym told_is ∙ sym (take-append-drop (length told - room) told))
              ∙ append_assoc (take (length told - room) told) (keep_last room told) later;
          count = omega (arith, length-take (length told - room) told);
          full = λ some. omega (arith, length-take (length told - room) told, length-drop (length told - room) told, some);
        }

        -- the next polls find the front at the length of what this one found
        rest : AreTold room later (polls history (watching parent room front) fronts)
            → AreTold room later (polls history (watching parent room (length (take front history))) fronts)
        rest = subst (λ n. AreTold room later (polls history (watching parent room n) fronts)) (sym long)
