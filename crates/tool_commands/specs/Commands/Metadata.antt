-- The commands on the metadata of keys. (This project's own.)
use Rattle.std.specs.Prelude.{ℕ, List, [], ◌∷◌, ◌++◌, Option, None, Some}
use Rattle.std.specs.FinMap as map
use Rattle.std.specs.List.{flat_map}
use Rattle.key_edits.specs.Edits.{put_meta}
use Rattle.model_names.specs.Name.{Name}
use Rattle.model_maps.specs.KeyMap.{KeyMap}
use Rattle.spec_cascade.specs.declared.founds.Found.{Found}
use Rattle.tool_commands.specs.Lines.{not_found, no_metadata}
use Rattle.tool_commands.specs.Report.{Report, told, warned}
use Rattle.tool_commands.specs.Step.{Step, Sets}

-- `meta-get`, by what is found under the metadata name
abbrev pub text_got : List ℕ → Option (List ℕ) → Report
text_got meta None = warned 11 (no_metadata meta)
text_got meta (Some text) = told (text ++ 10 ∷ [])

-- `meta-get`: a metadata text of what is found, with a line feed
abbrev pub meta_got : Name → List ℕ → Option Found → Report
meta_got name meta None = warned 11 (not_found name)
meta_got name meta (Some found) = text_got meta (map.get found.meta meta)

-- `meta-set`: a key gets a metadata text
abbrev pub meta_set_in : KeyMap → Name → List ℕ → List ℕ → Step
meta_set_in keys name meta text = Sets (put_meta keys name meta text) []

-- `meta-ls`: a line for each metadata name of what is found, in the order of their bytes
abbrev pub meta_listed : Name → Option Found → Report
meta_listed name None = warned 11 (not_found name)
meta_listed name (Some found) = told (flat_map (λ item. item.0 ++ 10 ∷ []) (map.entries found.meta))
