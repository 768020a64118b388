-- What the commits of a history change at or below a parent. (This project's own.)
use Rattle.std.specs.Prelude.{ℕ, ◌+◌, Bool, List, [], ◌∷◌, ◌++◌, take, drop, filter, map as over, is_none, refl}
use Rattle.std.specs.Coded.{Coded, code_by, coded×, coded_ℕ, coded_bool}
use Rattle.model_names.specs.Name.{Name, coded_name}
use Rattle.model_history.specs.Changes.{Change}
use Rattle.model_history.specs.History.{Commit}
use Rattle.model_specified.specs.Violations.{is_within}
use Rattle.watch_feed.specs.declared.news.Changed.{Changed}

-- a change of the commit of a number, as it is told: its name, and whether it takes the key away
abbrev pub told_of : ℕ → Change → Changed
told_of number change = record { number = number; name = change.0; removed = is_none change.1 }

-- some changes of the commit of a number: those at or below a parent, in their order. A cascading parent stands for its
-- path in every namespace
abbrev pub news_in : Name → ℕ → List Change → List Changed
news_in parent number changes = over (told_of number) (filter (λ change. is_within parent change.0) changes)

-- the changes of some commits, one commit after the other, which are numbered from a number on
abbrev pub news_from : Name → ℕ → List Commit → List Changed
news_from parent number [] = []
news_from parent number (commit ∷ commits) =
    news_in parent number commit.changes ++ news_from parent (number + 1) commits

-- the news of a history between two fronts: the changes of the commits behind the first front, up to the second
abbrev pub news : List Commit → ℕ → ℕ → Name → List Changed
news history from to parent = news_from parent (from + 1) (drop from (take to history))

-- how a proof tells changes apart
abbrev pub coded_changed : Coded Changed
coded_changed =
    code_by (ℕ × (Name × Bool)) (coded× coded_ℕ (coded× coded_name coded_bool))
    (λ c. (c.number, (c.name, c.removed))) (λ p. record { number = p.0; name = p.1.0; removed = p.1.1 }) (λ _. refl)
