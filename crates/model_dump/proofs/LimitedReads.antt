-- What some bytes read as is within the limits of a file: each record keeps it so.
use Rattle.std.specs.Prelude.{◌≡◌, ℕ, List, [], ◌∷◌, Option, None, Some}
use Rattle.std.specs.FinMap as finite
use Rattle.std.proofs.Common.{refl, sym, subst, ◌∙◌, arith, inl, inr}
use Rattle.std.proofs.lemmas.Cmp.{nat_list_cmp_total}
use Rattle.model_names.specs.Name.{Name}
use Rattle.model_names.specs.Order.{name_cmp}
use Rattle.model_names.proofs.NameLemmas.{spelled_is_name, slash_is_cascading}
use Rattle.model_names.proofs.OrderLemmas.{name_cmp_total, name_cmp-IsAntisymmetric}
use Rattle.general_words.specs.Texts.{text_cmp}
use Rattle.general_words.proofs.Texts.{text_cmp-IsAntisymmetric}
use Rattle.model_maps.specs.Entry.{Entry, plain_entry, with_meta}
use Rattle.model_maps.specs.KeyMap.{KeyMap, no_keys}
use Rattle.model_maps.specs.Limits.{IsLimitedMeta, IsLimitedKey, IsLimited}
use Rattle.model_dump.specs.Record.{RecordKind, KeyKind, MetaKind, CopyKind, Record}
use Rattle.model_dump.specs.Adds.{Progress, start, AddsKey, PutsMeta, AddsBy, Adds}
use Rattle.model_dump.specs.Dump.{Leads, Reads}
use Rattle.model_maps.proofs.MapLemmas.{found_in_insert, weight-no_keys}

-- every key of a map is within the limits
abbrev HasLimitedKeys : KeyMap → Type 0
HasLimitedKeys keys = (name : Name) (entry : Entry) → finite.get keys name ≡ Some entry → IsLimitedKey name entry

no_keys-limited : HasLimitedKeys no_keys
no_keys-limited name entry found =
    let none : ◌≡◌ {A = Option Entry} None (Some entry) = sym (finite.get-empty name_cmp name) ∙ found in absurd cc

-- a key within the limits joins others
insert-limited : (keys : KeyMap) (name : Name) (entry : Entry) → HasLimitedKeys keys → IsLimitedKey name entry
    → HasLimitedKeys (finite.insert keys name entry)
insert-limited keys name entry each limited q e found =
    elim (found_in_insert name_cmp_total name_cmp-IsAntisymmetric keys name entry q e found) as (λ _. IsLimitedKey q e) [
      | inl here ↦ subst (λ n. IsLimitedKey n e) (sym here.0) (subst (IsLimitedKey name) here.1 limited)
      | inr there ↦ each q e there
    ]

-- metadata within the limits joins a key within them
with_meta-limited : (name : Name) (entry : Entry) (meta_name text : List ℕ) → IsLimitedKey name entry
    → IsLimitedMeta meta_name text → IsLimitedKey name (with_meta entry meta_name text)
with_meta-limited name entry meta_name text limited meta = record {
  is_name = limited.is_name;
  cascading = limited.cascading;
  is_value = limited.is_value;
  each_meta = λ q t found. elim (found_in_insert nat_list_cmp_total text_cmp-IsAntisymmetric entry.meta meta_name text q t found) as (λ _. IsLimitedMeta q t) [
    | inl here ↦ subst (λ n. IsLimitedMeta n t) (sym here.0) (subst (IsLimitedMeta meta_name) here.1 meta)
    | inr there ↦ limited.each_meta q t there
  ];
}

puts-limited : (before : Progress) (name text : List ℕ) (after : Progress) → HasLimitedKeys before.keys
    → IsLimitedMeta name text → PutsMeta before name text after → HasLimitedKeys after.keys
puts-limited before name text after each meta puts =
    let limited = with_meta-limited puts.key puts.entry name text (each puts.key puts.entry puts.found) meta in
    subst (λ (p : Progress). HasLimitedKeys p.keys) (sym puts.added) (insert-limited before.keys puts.key _ each limited)

key-limited : (before : Progress) (text value : List ℕ) (after : Progress) → HasLimitedKeys before.keys
    → AddsKey before text value after → HasLimitedKeys after.keys
key-limited before text value after each adds =
    let limited : IsLimitedKey adds.name (plain_entry value) = record {
      is_name = spelled_is_name (47 ∷ text) adds.name adds.spelled;
      cascading = slash_is_cascading (47 ∷ text) adds.name refl adds.spelled;
      is_value = adds.is_value;
      each_meta = λ meta_name t found. let none : ◌≡◌ {A = Option (List ℕ)} None (Some t) = sym (finite.get-empty text_cmp meta_name) ∙ found in absurd cc;
    } in
    subst (λ (p : Progress). HasLimitedKeys p.keys) (sym adds.added) (insert-limited before.keys adds.name _ each limited)

AddsBy-limited : (kind : RecordKind) (before : Progress) (first second : List ℕ) (after : Progress)
    → HasLimitedKeys before.keys → AddsBy kind before first second after → HasLimitedKeys after.keys
AddsBy-limited KeyKind before first second after each adds = key-limited before first second after each adds
AddsBy-limited MetaKind before first second after each adds =
    puts-limited before first second after each (record { is_name = adds.is_name; is_value = adds.is_value }) adds.puts
AddsBy-limited CopyKind before first second after each adds =
    puts-limited before second adds.text after each ((each adds.source adds.entry adds.found).each_meta second adds.text adds.has) adds.puts

-- records keep a map within the limits
Leads-limited : (before : Progress) (records : List Record) (after : Progress) → IsLimited before.keys
    → Leads Adds before records after → IsLimited after.keys
Leads-limited before [] after limited leads = subst (λ (p : Progress). IsLimited p.keys) leads limited
Leads-limited before (r ∷ records) after limited leads =
    Leads-limited leads.0 records after (record { each = AddsBy-limited r.kind before r.first r.second leads.0 limited.each leads.2.adds; light = leads.2.light }) leads.3

start-limited : IsLimited no_keys
start-limited = record { each = no_keys-limited; light = omega (arith, weight-no_keys) }

-- a map that some bytes read as is within the limits
pub Reads-limited : (bytes : List ℕ) (keys : KeyMap) → Reads Adds bytes keys → IsLimited keys
Reads-limited bytes keys (inl none) = subst IsLimited (sym none.1) start-limited
Reads-limited bytes keys (inr dump) =
    subst IsLimited (sym dump.made) (Leads-limited start dump.records dump.progress start-limited dump.begins.leads)
