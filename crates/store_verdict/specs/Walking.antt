-- Two lists of keys that are walked side by side, and what they have to change between them.
use Rattle.std.specs.Prelude.{if◌then◌else◌, List, [], ◌∷◌, Option, Some, None}
use Rattle.std.specs.FinMap.{find}
use Rattle.std.specs.Option.{option_eq}
use Rattle.key_set.specs.Same.{same_entry}
use Rattle.model_names.specs.Name.{Name}
use Rattle.model_names.specs.Order.{name_cmp}
use Rattle.model_maps.specs.Entry.{Entry}

-- the keys that are still to come: the first, and those behind it
abbrev pub to_come : Option (Name × Entry) → List (Name × Entry) → List (Name × Entry)
to_come None behind = []
to_come (Some key) behind = key ∷ behind

-- what changes from one entry to another, either of which may be missing
abbrev pub change_of : Option Entry → Option Entry → Option (Option Entry)
change_of had wanted = if option_eq same_entry had wanted then None else Some wanted

-- what changes at a name from the keys of one list to those of another
abbrev pub change_between : List (Name × Entry) → List (Name × Entry) → Name → Option (Option Entry)
change_between had wanted name = change_of (find name_cmp name had) (find name_cmp name wanted)
