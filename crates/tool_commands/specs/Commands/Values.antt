-- The commands on the values of keys. (This project's own.)
use Rattle.std.specs.Prelude.{ℕ, List, [], ◌∷◌, ◌++◌, Option, None, Some}
use Rattle.std.specs.FinMap as map
use Rattle.key_edits.specs.Edits.{put_value}
use Rattle.model_names.specs.Name.{Name}
use Rattle.model_maps.specs.Entry.{Entry}
use Rattle.model_maps.specs.KeyMap.{KeyMap}
use Rattle.spec_cascade.specs.declared.founds.Found.{Found}
use Rattle.tool_commands.specs.Lines.{not_found, created, set_to}
use Rattle.tool_commands.specs.Report.{Report, told, warned}
use Rattle.tool_commands.specs.Step.{Step, Sets}

-- `get`: the value of what is found, with a line feed
abbrev pub got : Name → Option Found → Report
got name None = warned 11 (not_found name)
got name (Some found) = told (found.value ++ 10 ∷ [])

-- what `set` prints, by what the key had
abbrev pub printed_set : Option Entry → Name → List ℕ → List ℕ
printed_set None name value = created name value
printed_set (Some entry) name value = set_to value

-- `set`: a key gets a value
abbrev pub set_in : KeyMap → Name → List ℕ → Step
set_in keys name value = Sets (put_value keys name value) (printed_set (map.get keys name) name value)
