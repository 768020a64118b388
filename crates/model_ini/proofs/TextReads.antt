-- The text of a map that can be stored reads as it.
use Rattle.std.specs.Prelude.{◌≡◌, ◌≢◌, ℕ, ◌+◌, ◌≤◌, List, [], ◌∷◌, ◌++◌, map, None}
use Rattle.std.proofs.Common.{refl, sym, ap, subst, ◌∙◌, arith, lit<}
use Rattle.std.specs.FinMap as finite
use Rattle.std.specs.List.{AllByRecursion}
use Rattle.std.specs.Str.{IsUtf8}
use Rattle.model_names.specs.declared.namespaces.Namespace.TheVariants.{Cascading}
use Rattle.model_names.specs.Name.{Name}
use Rattle.model_names.specs.WellFormed.{IsName}
use Rattle.model_names.proofs.NameLemmas.{one_spelling, relative_text-spelling, relative_text-spells}
use Rattle.model_names.proofs.OrderLemmas.{name_cmp_total}
use Rattle.model_maps.specs.Entry.{Entry, plain_entry}
use Rattle.model_maps.specs.KeyMap.{KeyMap, no_keys, weight, weight_of_key, heaviest_map}
use Rattle.model_maps.specs.Limits.{IsLimitedKey, IsLimited}
use Rattle.model_names.specs.Spelling.{relative_text}
use Rattle.model_lines.specs.Reading.{Leads}
use Rattle.model_lines.proofs.LineLemmas.{IsInLine, lines-ended}
use Rattle.general_words.proofs.Fronts.{next_is_new, next_is_there, next_joins, none_left, all_left, sum_by-front}
use Rattle.model_maps.proofs.MapLemmas.{weight-insert}
use Rattle.model_lines.proofs.Utf8Lemmas.{utf8-behind}
use Rattle.model_ini.specs.Ini.{AddsKey, Does, Step, Reads, IsIniKey, IsStorable}
use Rattle.model_ini.specs.Text.{line_of, text}
use Rattle.model_ini.proofs.WrittenSigns.{IsFilled}
use Rattle.model_ini.proofs.WrittenLines.{meaning-line_of, line_of-in_line}
use Rattle.model_ini.proofs.WrittenUtf8.{line_of-utf8}

-- ---- a key's relative name

root : Name
root = record { namespace = Cascading; parts = [] }

root-is_name : IsName root
unfolding root
root-is_name = record { parts = tt; limit = omega arith }

-- only the mountpoint has no relative name
below-filled : (name : Name) → IsName name → name.namespace ≡ Cascading → name.parts ≢ []
    → IsFilled (relative_text name)
unfolding root
below-filled name is cascading below = by (relative_text name) refl
  where
    by : (bytes : List ℕ) → relative_text name ≡ bytes → IsFilled bytes
    by [] e =
        let same : name ≡ root = one_spelling name root is root-is_name (relative_text-spelling name cascading ∙ ap (λ t. 47 ∷ t) e) in
        absurd (below (ap (λ (n : Name). n.parts) same))
    by (b ∷ bytes) e = tt

relative_text-utf8 : (name : Name) → IsName name → name.namespace ≡ Cascading → IsUtf8 (relative_text name)
relative_text-utf8 name is cascading =
    utf8-behind 47 [] (relative_text name) (lit< tt) (relative_text-spells name is cascading).utf8

-- ---- its line

abbrev line_of_key : Name × Entry → List ℕ
line_of_key key = line_of (relative_text key.0) key.1.value

plain : (entry : Entry) → entry.meta ≡ finite.empty → entry ≡ plain_entry entry.value
plain entry e = λ i. record { value = entry.value; meta = e i }

key-adds : (before : KeyMap) (name : Name) (entry : Entry) → finite.get before name ≡ None → IsLimitedKey name entry
    → IsIniKey name entry → weight before + weight_of_key name entry ≤ heaviest_map
    → AddsKey before (relative_text name) entry.value (finite.insert before name entry)
key-adds before name entry new limited key light = record {
  name = name;
  spelled = relative_text-spells name limited.is_name limited.cascading;
  below = key.below;
  is_new = new;
  is_value = limited.is_value;
  added = ap (finite.insert before name) (plain entry key.no_meta);
  light = omega (arith, weight-insert before name entry new);
}

key-steps : (before : KeyMap) (name : Name) (entry : Entry) → finite.get before name ≡ None → IsLimitedKey name entry
    → IsIniKey name entry → weight before + weight_of_key name entry ≤ heaviest_map
    → Step before (line_of_key (name, entry)) (finite.insert before name entry)
key-steps before name entry new limited key light = record {
  utf8 = line_of-utf8 (relative_text name) entry.value (relative_text-utf8 name limited.is_name limited.cascading) limited.is_value.utf8;
  does = subst (λ m. Does m before (finite.insert before name entry))
      (sym (meaning-line_of (relative_text name) entry.value (below-filled name limited.is_name limited.cascading key.below)))
      (key-adds before name entry new limited key light);
}

-- ---- the lines of all keys

-- the lines of the keys that are left lead from the front of a map to the whole
keys_lead : (whole : KeyMap) → IsLimited whole → IsStorable whole → (rest : List (Name × Entry)) (part : KeyMap)
    → finite.entries whole ≡ finite.entries part ++ rest → Leads Step part (map line_of_key rest) whole
keys_lead whole limited storable [] part cut = none_left whole part cut
keys_lead whole limited storable (key ∷ rest) part cut =
    let new = next_is_new name_cmp_total whole part key rest cut in
    let there = next_is_there name_cmp_total whole part key rest cut in
    let joined = next_joins name_cmp_total whole part key rest cut in
    let light : weight part + weight_of_key key.0 key.1 ≤ heaviest_map =
    omega (arith, limited.light, weight-insert part key.0 key.1 new, sum_by-front (λ (k : Name × Entry). weight_of_key k.0 k.1) whole (finite.insert part key.0 key.1) rest joined) in (
      finite.insert part key.0 key.1,
      key-steps part key.0 key.1 new (limited.each key.0 key.1 there) (storable key.0 key.1 there) light,
      keys_lead whole limited storable rest (finite.insert part key.0 key.1) joined,
    )

lines-in_line : (keys : List (Name × Entry)) → AllByRecursion (AllByRecursion IsInLine) (map line_of_key keys)
lines-in_line [] = tt
lines-in_line (key ∷ keys) = (line_of-in_line (relative_text key.0) key.1.value, lines-in_line keys)

pub text-reads : (keys : KeyMap) → IsLimited keys → IsStorable keys → Reads (text keys) keys
text-reads keys limited storable =
    subst (λ all. Leads Step no_keys all keys) (sym (lines-ended (map line_of_key (finite.entries keys)) (lines-in_line (finite.entries keys))))
    (keys_lead keys limited storable (finite.entries keys) no_keys (all_left keys))
