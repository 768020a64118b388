-- Keys of which one is edited. (After Elektra's keySetString and keySetMeta.)
use Rattle.std.specs.Prelude.{ℕ, List, [], Option, None, Some}
use Rattle.std.specs.FinMap as map
use Rattle.model_names.specs.Name.{Name}
use Rattle.model_maps.specs.Entry.{Entry, plain_entry, with_meta}
use Rattle.model_maps.specs.KeyMap.{KeyMap}

-- an entry with another value; metadata stay
abbrev pub with_value : Option Entry → List ℕ → Entry
with_value None value = plain_entry value
with_value (Some entry) value = record { value = value; meta = entry.meta }

-- an entry with one more metadata text; a missing one has the empty value
abbrev pub with_text : Option Entry → List ℕ → List ℕ → Entry
with_text None meta text = with_meta (plain_entry []) meta text
with_text (Some entry) meta text = with_meta entry meta text

-- a key gets a value
abbrev pub put_value : KeyMap → Name → List ℕ → KeyMap
put_value keys name value = map.insert keys name (with_value (map.get keys name) value)

-- a key gets a metadata text
abbrev pub put_meta : KeyMap → Name → List ℕ → List ℕ → KeyMap
put_meta keys name meta text = map.insert keys name (with_text (map.get keys name) meta text)
