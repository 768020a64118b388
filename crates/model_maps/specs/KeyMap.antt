-- What a store holds: an entry for each of some names, in name order. (Elektra's KeySet. The weights are this project's
-- own.)
use Rattle.std.specs.Prelude.{ℕ, ◌+◌, not, length, sum_by}
use Rattle.std.specs.Coded.{Coded}
use Rattle.std.specs.FinMap as map
use Rattle.std.specs.FinMap.{FinMap}
use Rattle.model_names.specs.Name.{Name, coded_name}
use Rattle.model_names.specs.Below.{is_at_or_below}
use Rattle.model_names.specs.Order.{name_cmp}
use Rattle.model_names.specs.Spelling.{spelling}
use Rattle.model_maps.specs.Entry.{Entry, meta_bytes, coded_entry}

abbrev pub KeyMap : Type 0
KeyMap = FinMap name_cmp Entry

-- no key
abbrev pub no_keys : KeyMap
no_keys = map.empty

-- what a key weighs beside its bytes
abbrev pub key_weight : ℕ
key_weight = 64

-- the weight of a key: its own, and the bytes of its canonical name, its value, its metadata names and texts
abbrev pub weight_of_key : Name → Entry → ℕ
weight_of_key name entry = key_weight + length (spelling name) + length entry.value + meta_bytes entry.meta

-- the weight of a map: the sum of those of its keys
abbrev pub weight : KeyMap → ℕ
weight keys = sum_by (λ key. weight_of_key key.0 key.1) (map.entries keys)

-- the most that a map may weigh, in a file and in the whole store
abbrev pub heaviest_map : ℕ
heaviest_map = 16777216

-- how a proof tells maps apart
abbrev pub coded_keys : Coded KeyMap
coded_keys = map.code coded_name coded_entry

-- the keys that are a name or below it
abbrev pub at_or_below : Name → KeyMap → KeyMap
at_or_below above keys = map.retain_keys keys (is_at_or_below above)

-- the keys that are neither
abbrev pub not_below : Name → KeyMap → KeyMap
not_below above keys = map.retain_keys keys (λ name. not (is_at_or_below above name))
