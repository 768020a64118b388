-- One step of a walk over three sets: the lowest name ahead, and what it makes of the keys and of the conflicts so far.
use Rattle.std.specs.Prelude.{Bool, true, false, List, [], ◌∷◌, ◌++◌, Option, None, Some, cond}
use Rattle.std.specs.FinMap as map
use Rattle.std.specs.Ordering.{is_lt}
use Rattle.model_names.specs.Name.{Name}
use Rattle.model_names.specs.Order.{name_cmp}
use Rattle.model_maps.specs.Entry.{Entry}
use Rattle.model_maps.specs.KeyMap.{KeyMap}
use Rattle.key_merge.specs.declared.strategies.Strategy.{Strategy}
use Rattle.key_merge.specs.declared.strategies.Strategy.TheVariants.{Abort, Our, Their}
use Rattle.key_merge.specs.declared.choices.Choice as choices
use Rattle.key_merge.specs.declared.choices.Choice.TheVariants as choice
use Rattle.key_merge.specs.Merging.{choice_of, is_taken_from_their}

-- the lower of two names, each perhaps absent
abbrev pub lower : Option Name → Option Name → Option Name
lower None other = other
lower (Some one) None = Some one
lower (Some one) (Some other) = cond (is_lt (name_cmp other one)) (Some other) (Some one)

-- keys with an entry at a name, or without the name
abbrev pub with_entry : Name → Option Entry → KeyMap → KeyMap
with_entry name None keys = map.remove keys name
with_entry name (Some entry) keys = map.insert keys name entry

-- a choice is told: a conflict under abort
abbrev pub is_told : Strategy → choices.Choice → Bool
is_told strategy choice.Our = false
is_told strategy choice.Their = false
is_told Abort choice.Conflict = true
is_told Our choice.Conflict = false
is_told Their choice.Conflict = false

-- the keys so far with a name merged
abbrev pub keys_with : Strategy → Name → Option Entry → Option Entry → Option Entry → KeyMap → KeyMap
keys_with strategy name base our their keys =
    cond (is_taken_from_their strategy (choice_of base our their)) (with_entry name their keys) keys

-- and the conflicts so far with those of the name
abbrev pub names_with : Strategy → Name → Option Entry → Option Entry → Option Entry → List Name → List Name
names_with strategy name base our their names =
    cond (is_told strategy (choice_of base our their)) (names ++ name ∷ []) names
