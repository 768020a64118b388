-- Keys with what they weigh, as the code has them. (This project's own.)
use Rattle.std.specs.Prelude.{◌≡◌, Bool, true, false, List, [], ◌∷◌, length}
use Rattle.std.specs.FinMap as map
use Rattle.std.specs.List.{AllByRecursion}
use Rattle.general_words.specs.Saturated.{saturated}
use Rattle.model_names.specs.Name.{Name, Part}
use Rattle.model_names.specs.WellFormed.{IsName}
use Rattle.model_maps.specs.Entry.{Entry, plain_entry}
use Rattle.model_maps.specs.KeyMap.{KeyMap, weight}
use Rattle.model_formats.specs.Holding.{EachHas}
use Rattle.key_name.specs.Children.{child_of}
use Rattle.hosts_storage.specs.declared.weighed.Weighed.{Weighed}

-- a key of three parts holds nothing
abbrev pub IsPlainAlias : Name → Entry → Type 0
IsPlainAlias name entry = length name.parts ≡ 3 → entry ≡ plain_entry []

-- the weight is that of the keys, and aliases hold nothing
pub record IsWeighed (found : Weighed) : Type 0 where
  pub weighed : found.weight ≡ saturated (weight found.keys)
  pub plain : EachHas IsPlainAlias found.keys

-- a map with aliases of a host
abbrev pub with_aliases_of : Name → List Part → KeyMap → KeyMap
with_aliases_of host [] keys = keys
with_aliases_of host (alias ∷ aliases) keys =
    with_aliases_of host aliases (map.insert keys (child_of host alias) (plain_entry []))

-- the names of aliases are names
abbrev pub AreAliases : Name → List Part → Type 0
AreAliases host aliases = AllByRecursion (λ alias. IsName (child_of host alias)) aliases

-- aliases were added, or one of them has no name
abbrev pub AddsAliases : KeyMap → Name → List Part → Weighed → Bool → Type 0
AddsAliases before host aliases after true =
    AreAliases host aliases × (after.keys ≡ with_aliases_of host aliases before) × IsWeighed after
AddsAliases before host aliases after false = AreAliases host aliases → ⊥
