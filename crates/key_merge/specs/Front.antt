-- The keys of a set that are still to come, the next one first.
use Rattle.std.specs.Prelude.{List, [], ◌∷◌, Option, None, Some, cond}
use Rattle.model_names.specs.Name.{Name}
use Rattle.model_names.specs.Order.{name_eq}
use Rattle.model_maps.specs.Entry.{Entry}

-- the next key and those behind it
abbrev pub with_next : Option (Name × Entry) → List (Name × Entry) → List (Name × Entry)
with_next None rest = rest
with_next (Some key) rest = key ∷ rest

-- the name of the next key
abbrev pub next_name : List (Name × Entry) → Option Name
next_name [] = None
next_name (key ∷ rest) = Some key.0

-- the entry of the next key, where that has a name
abbrev pub entry_at : Name → List (Name × Entry) → Option Entry
entry_at name [] = None
entry_at name (key ∷ rest) = cond (name_eq key.0 name) (Some key.1) None

-- the keys to come behind a name: without the next key, where that has it
abbrev pub behind : Name → List (Name × Entry) → List (Name × Entry)
behind name [] = []
behind name (key ∷ rest) = cond (name_eq key.0 name) rest (key ∷ rest)
