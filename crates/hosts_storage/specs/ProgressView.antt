-- How far a file was read, as the definitions have it, and what a line makes of it. (This project's own.)
use Rattle.std.specs.Prelude.{◌≡◌, ℕ, ◌≤◌, Bool, true, false, List, [], ◌∷◌, ◌++◌}
use Rattle.std.specs.FinMap as map
use Rattle.std.specs.Str.{IsUtf8}
use Rattle.model_names.specs.Name.{Name, Part}
use Rattle.model_maps.specs.Entry.{Entry}
use Rattle.model_maps.specs.KeyMap.{KeyMap, weight, heaviest_map}
use Rattle.model_hosts.specs.Hosts.{Progress}
use Rattle.hosts_storage.specs.WeighedView.{IsWeighed, AreAliases, with_aliases_of}
use Rattle.hosts_storage.specs.declared.progress.Progress as code
use Rattle.hosts_storage.specs.declared.weighed.Weighed.{Weighed}

abbrev pub progress_of : code.Progress → Progress
progress_of so_far = record { keys = so_far.found.keys; waiting = so_far.waiting.items }

abbrev pub IsSound : code.Progress → Type 0
IsSound so_far = IsWeighed so_far.found

-- something leads to the progress after it, or nowhere
abbrev pub LeadsBy : (Progress → Type 0) → code.Progress → Bool → Type 0
LeadsBy Leads after true = Leads (progress_of after) × IsSound after
LeadsBy Leads after false = (other : Progress) → Leads other → ⊥

-- a text waits behind those that wait
pub record WithComment (before : Progress) (text : List ℕ) (after : Progress) : Type 0 where
  pub utf8 : IsUtf8 text
  pub added : after ≡ record { keys = before.keys; waiting = before.waiting ++ text ∷ [] }

-- a host and its aliases, each with its name, in a map that isn't too heavy
abbrev pub IsPut : KeyMap → Name → Entry → List Part → KeyMap → Type 0
IsPut before host entry aliases after =
    (after ≡ with_aliases_of host aliases (map.insert before host entry)) × AreAliases host aliases × (weight after ≤ heaviest_map)

-- they were put, or can't be
abbrev pub PutsHost : KeyMap → Name → Entry → List Part → Weighed → Bool → Type 0
PutsHost before host entry aliases after true = IsPut before host entry aliases after.keys × IsWeighed after
PutsHost before host entry aliases after false = (other : KeyMap) → IsPut before host entry aliases other → ⊥
