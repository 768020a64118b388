-- What a history is to its callers: its commits, how many mounts its index has a place for, and how many commits it
-- takes without memory.
use Rattle.std.specs.Prelude.{ℕ, List, refl}
use Rattle.std.specs.Coded.{Coded, code_by, coded×, coded_list, coded_option, coded_ℕ}
use Rattle.model_names.specs.Name.{coded_name}
use Rattle.model_maps.specs.Entry.{coded_entry}
use Rattle.model_history.specs.Changes.{Change}
use Rattle.model_history.specs.History.{Commit}

pub record Log : Type 0 where
  pub commits : List Commit
  pub places : ℕ
  pub room : ℕ

-- how a proof tells changes, commits and logs apart
abbrev pub coded_change : Coded Change
coded_change = coded× coded_name (coded_option coded_entry)

abbrev pub coded_commit : Coded Commit
coded_commit =
    code_by (ℕ × (List ℕ × List Change)) (coded× coded_ℕ (coded× (coded_list coded_ℕ) (coded_list coded_change)))
    (λ c. (c.handle, (c.touched, c.changes))) (λ p. record { handle = p.0; touched = p.1.0; changes = p.1.1 }) (λ _. refl)

abbrev pub coded_log : Coded Log
coded_log =
    code_by (List Commit × (ℕ × ℕ)) (coded× (coded_list coded_commit) (coded× coded_ℕ coded_ℕ))
    (λ l. (l.commits, (l.places, l.room))) (λ p. record { commits = p.0; places = p.1.0; room = p.1.1 }) (λ _. refl)
