-- The commands on a key alone or on all keys at or below a name. (This project's own.)
use Rattle.std.specs.Prelude.{ℕ, ◌==◌, nat_lt, ◌||◌, Bool, List, [], ◌∷◌, ◌++◌, length, drop, filter, if◌then◌else◌, Option, None, Some}
use Rattle.std.specs.FinMap as map
use Rattle.std.specs.List.{flat_map}
use Rattle.model_names.specs.declared.namespaces.Namespace.TheVariants.{Cascading}
use Rattle.model_names.specs.Name.{Name}
use Rattle.model_names.specs.Below.{is_at_or_below}
use Rattle.general_words.specs.Searches.{first_some}
use Rattle.model_names.specs.Refuses.{TooLong}
use Rattle.model_names.specs.Spelling.{path}
use Rattle.model_names.specs.Spells.{longest_path}
use Rattle.model_maps.specs.Entry.{Entry}
use Rattle.model_maps.specs.KeyMap.{KeyMap, no_keys, at_or_below, not_below}
use Rattle.key_set.specs.WithAll.{with_all}
use Rattle.tool_words.specs.declared.extents.Extent.{Extent}
use Rattle.tool_words.specs.declared.extents.Extent.TheVariants.{Alone, WithBelow}
use Rattle.tool_words.specs.declared.ways.Way.{Way}
use Rattle.tool_words.specs.declared.ways.Way.TheVariants.{Copies, Moves}
use Rattle.tool_words.specs.Lines.{no_name}
use Rattle.tool_commands.specs.Lines.{not_found, line_of_name}
use Rattle.tool_commands.specs.Report.{Report, told, warned}
use Rattle.tool_commands.specs.Step.{Step, Tells, Sets}

-- the keys that a command is for
abbrev pub sources : Extent → Name → KeyMap → KeyMap
sources Alone name keys = elim (map.get keys name) [ None ↦ no_keys | Some entry ↦ map.insert no_keys name entry ]
sources WithBelow name keys = at_or_below name keys

-- the keys without them
abbrev pub others : Extent → Name → KeyMap → KeyMap
others Alone name keys = map.remove keys name
others WithBelow name keys = not_below name keys

-- `rm`, by the keys that it takes out and those that it leaves
abbrev pub removed : Name → KeyMap → KeyMap → Step
removed name taken left = if length (map.entries taken) == 0 then Tells (warned 11 (not_found name)) else Sets left []

-- a name without its namespace
abbrev pub cascading : Name → Name
cascading name = record { namespace = Cascading; parts = name.parts }

-- a name is listed by another one that is the same or above it; a cascading one lists its path in every namespace
abbrev pub is_listed : Name → Name → Bool
is_listed above name = is_at_or_below above name || is_at_or_below above (cascading name)

-- `ls`: a line for each key at or below a name, in name order
abbrev pub listed : KeyMap → Name → Report
listed keys name = told (flat_map (λ key. line_of_name key.0) (filter (λ key. is_listed name key.0) (map.entries keys)))

-- where a key is brought from one name to another: it has the other's parts, and behind them what it had behind the
-- first's
abbrev pub brought : Name → Name → Name → Name
brought from to name = record { namespace = to.namespace; parts = to.parts ++ drop (length from.parts) name.parts }

-- keys with some others set under the names to which they are brought, one after the other
abbrev pub with_brought : Name → Name → KeyMap → List (Name × Entry) → KeyMap
with_brought from to keys [] = keys
with_brought from to keys (key ∷ more) = with_brought from to (map.insert keys (brought from to key.0) key.1) more

-- how many bytes the path of a name has, where it is too long
abbrev pub bytes_over : Name → Option ℕ
bytes_over name = let bytes = length (path name) in if nat_lt longest_path bytes then Some bytes else None

-- the bytes of the first path that is too long, of the names to which keys are brought
abbrev pub first_too_long : Name → Name → List (Name × Entry) → Option ℕ
first_too_long from to keys = first_some (λ key. bytes_over (brought from to key.0)) keys

-- the keys over which others are set: `mv` takes these away first
abbrev pub staying : Way → Extent → Name → KeyMap → KeyMap
staying Copies extent name keys = keys
staying Moves extent name keys = others extent name keys

-- `cp` and `mv` of keys over others
abbrev pub brought_over : Name → Name → List (Name × Entry) → KeyMap → Step
brought_over from to taken keys =
    elim (first_too_long from to taken) [ None ↦ Sets (with_brought from to keys taken) [] | Some bytes ↦ Tells (warned 2 (no_name (TooLong bytes))) ]

-- `cp` and `mv`: without a key to bring nothing is done
abbrev pub brought_in : KeyMap → Name → Way → Extent → Name → Step
brought_in keys name way extent to =
    let taken = map.entries (sources extent name keys) in
    if length taken == 0 then Tells (warned 11 (not_found name)) else brought_over name to taken (staying way extent name keys)

-- other keys in the place of all at or below a name, as `import` sets them
abbrev pub replaced : Name → KeyMap → KeyMap → Step
replaced name others keys = Sets (with_all others (not_below name keys)) []
