-- The merged keys and the names in conflict, each as the one thing that `Merging` allows. (This project's own.)
use Rattle.std.specs.Prelude.{Bool, true, false, not, List, filter}
use Rattle.std.specs.FinMap as map
use Rattle.model_names.specs.Name.{Name}
use Rattle.model_maps.specs.KeyMap.{KeyMap}
use Rattle.key_set.specs.WithAll.{with_all}
use Rattle.key_merge.specs.declared.strategies.Strategy.{Strategy}
use Rattle.key_merge.specs.declared.choices.Choice as choices
use Rattle.key_merge.specs.declared.choices.Choice.TheVariants as choice
use Rattle.key_merge.specs.Merging.{choice_of, is_taken_from_their}

-- what becomes of a name
abbrev pub choice_at : KeyMap → KeyMap → KeyMap → Name → choices.Choice
choice_at base our their name = choice_of (map.get base name) (map.get our name) (map.get their name)

abbrev pub is_conflict : choices.Choice → Bool
is_conflict choice.Our = false
is_conflict choice.Their = false
is_conflict choice.Conflict = true

-- a name takes their entry
abbrev pub takes_their : Strategy → KeyMap → KeyMap → KeyMap → Name → Bool
takes_their strategy base our their name = is_taken_from_their strategy (choice_at base our their name)

-- the merged keys: those of the names that take theirs, and ours under all other names
abbrev pub merged : Strategy → KeyMap → KeyMap → KeyMap → KeyMap
merged strategy base our their =
    with_all (map.retain_keys their (takes_their strategy base our their)) (map.retain_keys our (λ name. not (takes_their strategy base our their name)))

-- the names in conflict, in name order: a side has each of them
abbrev pub conflicts : KeyMap → KeyMap → KeyMap → List Name
conflicts base our their = filter (λ name. is_conflict (choice_at base our their name)) (map.keys (with_all our their))
