-- What a set comes to under its own specifications. (After Elektra's page on specifications; the words for booleans are
-- Elektra's.)
use Rattle.std.specs.Prelude.{ℕ, nat_eq, Bool, true, false, not, ◌&&◌, if◌then◌else◌, List, [], ◌∷◌, map, Option, Some, None, option_and_then, codes}
use Rattle.std.specs.FinMap as finite
use Rattle.std.specs.List.{flat_map, list_any}
use Rattle.std.specs.Option.{option_map, option_map_or, option_to_list, unwrap_or}
use Rattle.general_words.specs.Texts.{is_text}
use Rattle.model_names.specs.declared.namespaces.Namespace.{Namespace}
use Rattle.model_names.specs.declared.namespaces.Namespace.TheVariants.{Cascading, Spec, Proc, Dir, User, System, Default}
use Rattle.model_names.specs.Name.{Part, Name, rank}
use Rattle.model_maps.specs.Entry.{Meta, Entry, plain_entry}
use Rattle.model_maps.specs.KeyMap.{KeyMap}
use Rattle.key_set.specs.WithAll.{with_keys}
use Rattle.model_specified.specs.Globs.{has_glob}
use Rattle.model_specified.specs.SpecMeta.{laid_over, said_of, spec_keys, spec_name}

-- the name of a path in `default:`
abbrev pub default_name : List Part → Name
default_name path = record { namespace = Default; parts = path }

-- the default that a key of `spec:` makes: where its name has no glob and it has metadata `default`, the key of
-- `default:` with its path has that text and no metadata
abbrev pub default_of : Name × Entry → List (Name × Entry)
default_of spec =
    if has_glob spec.0.parts then [] else option_to_list (option_map (λ text. (default_name spec.0.parts, plain_entry text)) (finite.get spec.1.meta (codes "default")))

-- the entry that a specification's text `default` is
abbrev pub default_text : Entry → Option Entry
default_text spec = option_map plain_entry (finite.get spec.meta (codes "default"))

-- the default of a name: one of `default:` without a glob has that of the key of `spec:` with its path
abbrev pub default_at : KeyMap → Name → Option Entry
default_at specs name =
    if nat_eq (rank name.namespace) (rank Default) && not (has_glob name.parts) then option_and_then default_text (finite.get specs (spec_name name.parts)) else None

-- the keys with those defaults, each in place of a key that was there
abbrev pub with_defaults : KeyMap → KeyMap → KeyMap
with_defaults specs keys = with_keys (flat_map default_of (finite.entries specs)) keys

-- keys of all namespaces but cascading and `spec:` are specified and checked
abbrev pub is_specified : Namespace → Bool
is_specified Cascading = false
is_specified Spec = false
is_specified Proc = true
is_specified Dir = true
is_specified User = true
is_specified System = true
is_specified Default = true

-- the metadata of a key: what the specification says of its path, over its own
abbrev pub specified_meta : KeyMap → Name → Meta → Meta
specified_meta specs name meta =
    if is_specified name.namespace then laid_over (said_of specs name.parts ∷ meta ∷ []) else meta

-- the words for 1 and for 0
abbrev pub words_for_one : List (List ℕ)
words_for_one = codes "true" ∷ codes "yes" ∷ codes "on" ∷ codes "enabled" ∷ []

abbrev pub words_for_zero : List (List ℕ)
words_for_zero = codes "false" ∷ codes "no" ∷ codes "off" ∷ codes "disabled" ∷ []

-- the bit that a word stands for
abbrev pub bit_of : List ℕ → Option (List ℕ)
bit_of value =
    if list_any (is_text value) words_for_one then Some (codes "1") else (if list_any (is_text value) words_for_zero then Some (codes "0") else None)

-- metadata says that the value is a boolean
abbrev pub is_boolean : Meta → Bool
is_boolean meta = option_map_or (λ word. is_text word (codes "boolean")) (finite.get meta (codes "type")) false

-- the bit in place of a value
abbrev pub bit_under : Meta → List ℕ → Option (List ℕ)
bit_under meta value = if is_boolean meta then bit_of value else None

-- a value under its metadata: 1 or 0 in place of a boolean's word
abbrev pub specified_value : Meta → List ℕ → List ℕ
specified_value meta value = unwrap_or (bit_under meta value) value

-- the entry of a key
abbrev pub specified_entry : KeyMap → Name → Entry → Entry
specified_entry specs name entry =
    let meta = specified_meta specs name entry.meta in record { value = specified_value meta entry.value; meta = meta }

abbrev pub specified_key : KeyMap → Name × Entry → Name × Entry
specified_key specs key = (key.0, specified_entry specs key.0 key.1)

-- the specified set: the keys with their defaults, each with its specified entry
abbrev pub specified : KeyMap → KeyMap
specified keys =
    finite.from_sorted (map (specified_key (spec_keys keys)) (finite.entries (with_defaults (spec_keys keys) keys)))
