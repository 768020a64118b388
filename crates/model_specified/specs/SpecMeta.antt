-- What the keys of `spec:` say of a path. (After Elektra's page on specifications; which key comes before which is this
-- project's own.)
use Rattle.std.specs.Prelude.{Bool, not, ◌&&◌, List, [], ◌++◌, map}
use Rattle.std.specs.FinMap as finite
use Rattle.std.specs.List.{filter, flat_map}
use Rattle.std.specs.Option.{option_to_list}
use Rattle.model_names.specs.declared.namespaces.Namespace.TheVariants.{Spec}
use Rattle.model_names.specs.Name.{Part, Name}
use Rattle.model_names.specs.Order.{name_eq}
use Rattle.model_maps.specs.Entry.{Meta, Entry}
use Rattle.model_maps.specs.KeyMap.{KeyMap, at_or_below}
use Rattle.model_specified.specs.Globs.{matches_glob}

-- the name of a path in `spec:`
abbrev pub spec_name : List Part → Name
spec_name path = record { namespace = Spec; parts = path }

-- the keys of `spec:`
abbrev pub spec_keys : KeyMap → KeyMap
spec_keys keys = at_or_below (spec_name []) keys

-- another name in `spec:` than a path's own, whose parts match the path
abbrev pub is_pattern_of : List Part → Name → Bool
is_pattern_of path name = matches_glob path name.parts && not (name_eq name (spec_name path))

-- the specification keys of a path: the key with the path itself, if it is there, and then each other one whose parts
-- match the path, in key order
abbrev pub specs_of : KeyMap → List Part → List Entry
specs_of specs path =
    option_to_list (finite.get specs (spec_name path)) ++ map (λ key. key.1) (filter (λ key. is_pattern_of path key.0) (finite.entries specs))

-- metadata laid over other: each name has the text of the first that has it
unfoldable pub laid_over : List Meta → Meta
laid_over metas = finite.from_entries (flat_map (λ meta. finite.entries meta) metas)

-- what the keys of `spec:` say of a path: each name has the text of the first specification key that has it
abbrev pub said_of : KeyMap → List Part → Meta
said_of specs path = laid_over (map (λ spec. spec.meta) (specs_of specs path))

-- the specification metadata of a path
abbrev pub spec_meta : KeyMap → List Part → Meta
spec_meta keys path = said_of (spec_keys keys) path
