-- Which texts of a set of keys are too long to be stored. (This project's own.)
use Rattle.std.specs.Prelude.{ℕ, nat_lt, if◌then◌else◌, List, ◌∷◌, length, Option, Some, None}
use Rattle.std.specs.FinMap as map
use Rattle.std.specs.List.{list_any}
use Rattle.std.specs.Option.{option_map}
use Rattle.model_names.specs.Name.{Name}
use Rattle.general_words.specs.Searches.{first_some}
use Rattle.model_maps.specs.Entry.{Entry, longest_value}
use Rattle.model_maps.specs.KeyMap.{KeyMap}
use Rattle.set_split.specs.Involved.{owns}

-- the length of a text that is too long
abbrev pub if_long : List ℕ → Option ℕ
if_long text = if nat_lt longest_value (length text) then Some (length text) else None

-- the length of the first text of an entry that is too long: the value first, and then the metadata by their names
abbrev pub long_text : Entry → Option ℕ
long_text entry = first_some if_long (entry.value ∷ map.values entry.meta)

-- the first text of a key that is too long, where one of some mounts owns it: the key's name, and the text's length
abbrev pub long_in : List Name → List ℕ → Name × Entry → Option (Name × ℕ)
long_in points mounts key =
    if list_any (λ i. owns points i key.0) mounts then option_map (λ bytes. (key.0, bytes)) (long_text key.1) else None

-- the first key, of those that some of these mounts own, with a text that is too long
abbrev pub first_long_in : List Name → List ℕ → KeyMap → Option (Name × ℕ)
first_long_in points mounts keys = first_some (long_in points mounts) (map.entries keys)
