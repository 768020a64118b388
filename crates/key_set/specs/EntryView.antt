-- An entry as the code has it, seen as a key map has it.
use Rattle.std.specs.Prelude.{List, map}
use Rattle.std.specs.FinMap.{from_sorted}
use Rattle.model_names.specs.Name.{Name}
use Rattle.model_maps.specs.Entry.{Entry}
use Rattle.model_maps.specs.KeyMap.{KeyMap}
use Rattle.key_set.specs.declared.entries.Entry as code

abbrev pub entry_of : code.Entry → Entry
entry_of entry = record { value = entry.value; meta = entry.meta }

-- the map of some keys in name order
abbrev pub keys_of : List (Name × code.Entry) → KeyMap
keys_of keys = from_sorted (map (λ key. (key.0, entry_of key.1)) keys)
