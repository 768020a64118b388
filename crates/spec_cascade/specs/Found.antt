-- The key that is found for a name. (After Elektra's page on cascading.)
use Rattle.std.specs.Prelude.{◌==◌, if◌then◌else◌, List, Option, None, codes}
use Rattle.std.specs.FinMap as finite
use Rattle.std.specs.Option.{option_map, option_or}
use Rattle.general_words.specs.Searches.{first_some}
use Rattle.model_names.specs.declared.namespaces.Namespace.TheVariants.{Cascading}
use Rattle.model_names.specs.Name.{Name, Part, rank}
use Rattle.model_names.specs.Order.{name_eq}
use Rattle.model_maps.specs.Entry.{Entry, Meta}
use Rattle.model_maps.specs.KeyMap.{KeyMap}
use Rattle.model_specified.specs.SpecMeta.{spec_meta}
use Rattle.model_specified.specs.Specified.{default_name}
use Rattle.spec_cascade.specs.Candidates.{candidates}
use Rattle.spec_cascade.specs.declared.founds.Found.{Found}

-- a name with its entry
abbrev pub found_at : Name → Entry → Found
found_at name entry = record { name = name; value = entry.value; meta = entry.meta }

-- the default that a specification says, with all that it says
abbrev pub default_said : Meta → Option Entry
default_said said = option_map (λ text. record { value = text; meta = said }) (finite.get said (codes "default"))

-- a candidate of a path that is present: the set has it, or it is the path's default and the specification says one
abbrev pub present : KeyMap → Meta → Name → Name → Option Found
present keys said default name =
    option_map (found_at name) (option_or (finite.get keys name) (if name_eq name default then default_said said else None))

-- a cascading name finds the first of its candidates that is present
abbrev pub first_present : KeyMap → List Part → Meta → Option Found
first_present keys path said = first_some (present keys said (default_name path)) (candidates path said)

-- and a name with a namespace its own key
abbrev pub found : KeyMap → Name → Option Found
found keys name =
    if rank name.namespace == rank Cascading then first_present keys name.parts (spec_meta keys name.parts) else option_map (found_at name) (finite.get keys name)
