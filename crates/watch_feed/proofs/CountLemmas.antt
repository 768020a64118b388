-- How many news a history may have: no more than it weighs.
use Rattle.std.proofs.Common.{◌≡◌, ℕ, ◌+◌, ◌-◌, ◌*◌, ◌<◌, ◌≤◌, ◌^◌, Bool, true, false, cond, List, [], ◌∷◌, ◌++◌, length, drop, filter, sym, subst, arith, length-append, length-drop}
use Rattle.std.specs.Prelude.{sum_by}
use Rattle.std.proofs.lemmas.List.{length-map}
use Rattle.std.proofs.lemmas.List.Sums.{sum_by-cons, sum_by-take-drop}
use Rattle.circular_buffer.specs.Buffer.{keep_last}
use Rattle.model_history.specs.Changes.{Change}
use Rattle.model_history.specs.History.{Commit, heaviest_history, history_weight, weight_of_change, weight_of_commit}
use Rattle.model_names.specs.Name.{Name}
use Rattle.model_specified.specs.Violations.{is_within}
use Rattle.watch_feed.proofs.RingLemmas.{length-keep_last}
use Rattle.watch_feed.specs.News.{news_from, news_in, told_of}
use Rattle.watch_feed.specs.declared.news.Changed.{Changed}

-- a change weighs something
count_in : (test : Change → Bool) (cs : List Change) → length (filter test cs) ≤ sum_by weight_of_change cs
count_in test [] = omega arith
count_in test (c ∷ cs) = by (test c) (count_in test cs)
  where
    by : (b : Bool) → length (filter test cs) ≤ sum_by weight_of_change cs
        → length (cond b (c ∷ filter test cs) (filter test cs)) ≤ sum_by weight_of_change (c ∷ cs)
    by true le = omega (arith, le, sum_by-cons weight_of_change c cs)
    by false le = omega (arith, le, sum_by-cons weight_of_change c cs)

module _ (parent : Name) where
  count_from : (number : ℕ) (commits : List Commit) → length (news_from parent number commits) ≤ history_weight commits
  count_from number [] = omega arith
  count_from number (c ∷ cs) =
      let both = length-append (news_in parent number c.changes) (news_from parent (number + 1) cs) in
      let one = count_in (λ change. is_within parent change.0) c.changes in
      omega (arith, both, one, length-map (filter (λ (change : Change). is_within parent change.0) c.changes) (told_of number), count_from (number + 1) cs, sum_by-cons weight_of_commit c cs)

  -- commits that weigh no more than a history may have no more news each than that
  few_news : (number : ℕ) (commits : List Commit) → history_weight commits ≤ heaviest_history
      → length (news_from parent number commits) ≤ length commits * heaviest_history
  few_news number [] light = omega arith
  few_news number (c ∷ cs) light = omega (arith, count_from number (c ∷ cs))

-- a commit weighs something
count_commits : (commits : List Commit) → length commits ≤ history_weight commits
count_commits [] = omega arith
count_commits (c ∷ cs) = omega (arith, count_commits cs, sum_by-cons weight_of_commit c cs)

-- A watch that has missed and keeps no more changes than the commits that it has looked at may have, looks at the
-- commits behind them.
module _ (parent : Name) (history : List Commit) (front missed : ℕ) (ring told : List Changed)
    (within : front ≤ length history) (light : history_weight history ≤ heaviest_history) (told_is : told ≡ news_from parent (front + 1) (drop front history))
    (few : missed + length ring ≤ front * heaviest_history) where
  few_behind : length told ≤ (length history - front) * heaviest_history
  few_behind =
      let part = sum_by-take-drop weight_of_commit history front in
      let less : history_weight (drop front history) ≤ heaviest_history = omega (arith, part, light) in
      let some = few_news parent (front + 1) (drop front history) less in
      let long = length-drop front history in
      subst (λ n. length told ≤ n * heaviest_history) long (subst (λ l. length l ≤ length (drop front history) * heaviest_history) (sym told_is) some)

  -- then the same holds of all that it has looked at
  pub few_still : (room : ℕ)
      → missed + (length (ring ++ told) - room) + length (keep_last room (ring ++ told)) ≤ length history * heaviest_history
  few_still room = omega (arith, few, few_behind, length-append ring told, length-keep_last room (ring ++ told), within)

  -- and the number of those that it has missed fits its type
  pub missed_fits : (room : ℕ) → missed + (length (ring ++ told) - room) < 2 ^ 64
  missed_fits room = omega (arith, few_still room, count_commits history, light)

-- and the numbers of the commits do
pub numbers_fit : (history : List Commit) (front n : ℕ) → front ≤ length history
    → history_weight history ≤ heaviest_history → n ≡ length history - front → front + n < 2 ^ 64
numbers_fit history front n within light is = omega (arith, is, count_commits history, light, within)
