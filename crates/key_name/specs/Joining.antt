-- Names joined to others, and what is left of a name below another. (This project's own.)
use Rattle.std.specs.Prelude.{◌≡◌, ◌<◌, if◌then◌else◌, ◌++◌, length, drop, Option, Some, None}
use Rattle.general_words.specs.Memory.{UnlessMemory}
use Rattle.model_names.specs.declared.namespaces.Namespace.TheVariants.{Cascading}
use Rattle.model_names.specs.Below.{is_at_or_below}
use Rattle.model_names.specs.Name.{Name}
use Rattle.model_names.specs.Spelling.{path}
use Rattle.model_names.specs.Spells.{longest_path}
use Rattle.key_name.specs.declared.faults.NameFault.{NameFault}
use Rattle.key_name.specs.declared.faults.NameFault.TheVariants.{TooLong, Memory}

-- a name with the parts of another behind its own
abbrev pub joined : Name → Name → Name
joined name relative = record { namespace = name.namespace; parts = name.parts ++ relative.parts }

-- what leads from a name to one at or below it; none where the other is neither
abbrev pub way_to : Name → Name → Option Name
way_to above name =
    if is_at_or_below above name then Some (record { namespace = Cascading; parts = drop (length above.parts) name.parts }) else None

-- a fault says that a name's path is over the limit, with its length, or is want of memory
abbrev pub IsTooLong : Name → NameFault → Type 0
IsTooLong name fault =
    UnlessMemory Memory ((fault ≡ TooLong (length (path name))) × (longest_path < length (path name))) fault
