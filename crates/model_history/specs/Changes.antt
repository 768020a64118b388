-- What one map has that another has not, as changes of names. (After Elektra's kdbSet, which stores a key set in place
-- of what was fetched; the changes are this project's own.)
use Rattle.std.specs.Prelude.{if◌then◌else◌, List, [], ◌∷◌, ◌++◌, filter_map, Option, Some, None}
use Rattle.std.specs.FinMap as map
use Rattle.std.specs.FinMap.{FinMap}
use Rattle.std.specs.Option.{option_eq, option_map}
use Rattle.model_names.specs.Name.{Name}
use Rattle.model_names.specs.Order.{name_cmp}
use Rattle.model_maps.specs.Entry.{Entry}
use Rattle.model_maps.specs.KeyMap.{KeyMap}
use Rattle.key_set.specs.Same.{same_entry}

-- a change: a name with its new entry, or with none, which takes the key away
abbrev pub Change : Type 0
Change = Name × Option Entry

-- changes of different names, in name order
abbrev pub Changes : Type 0
Changes = FinMap name_cmp (Option Entry)

-- what changes at a name from one map to another
abbrev pub change_at : KeyMap → KeyMap → Name → Option (Option Entry)
change_at before wanted name =
    if option_eq same_entry (map.get before name) (map.get wanted name) then None else Some (map.get wanted name)

-- the same with its name
abbrev pub named_change : KeyMap → KeyMap → Name → Option Change
named_change before wanted name = option_map (λ change. (name, change)) (change_at before wanted name)

-- the changes that lead from one map to another
abbrev pub difference : KeyMap → KeyMap → Changes
difference before wanted =
    map.from_entries (filter_map (named_change before wanted) (map.keys before ++ map.keys wanted))

-- a map with one change made
abbrev pub changed : KeyMap → Change → KeyMap
changed keys change = elim change.1 [ Some entry ↦ map.insert keys change.0 entry | None ↦ map.remove keys change.0 ]

-- a map with some changes made, one after the other
abbrev pub changed_by : List Change → KeyMap → KeyMap
changed_by [] keys = keys
changed_by (change ∷ changes) keys = changed_by changes (changed keys change)

-- a map with changes of different names made
abbrev pub after : KeyMap → Changes → KeyMap
after keys changes = changed_by (map.entries changes) keys
