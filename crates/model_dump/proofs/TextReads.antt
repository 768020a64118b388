-- The text of a map within the limits of a file reads as it.
use Rattle.std.specs.Prelude.{◌≡◌, ℕ, ◌+◌, ◌≤◌, List, [], ◌∷◌, ◌++◌, length, map, Option, None, Some}
use Rattle.std.specs.FinMap as finite
use Rattle.std.specs.List.{flat_map}
use Rattle.std.proofs.Common.{refl, sym, ap, subst, arith, inr}
use Rattle.std.proofs.lemmas.Cmp.{nat_list_cmp_total}
use Rattle.model_names.specs.Name.{Name}
use Rattle.model_names.specs.Spelling.{relative_text}
use Rattle.model_names.proofs.NameLemmas.{length-relative_text, relative_text-spells}
use Rattle.model_names.proofs.OrderLemmas.{name_cmp_total, name_cmp-IsAntisymmetric}
use Rattle.model_maps.specs.Entry.{Entry, Meta}
use Rattle.model_maps.specs.KeyMap.{KeyMap, no_keys, weight, weight_of_key, heaviest_map}
use Rattle.model_dump.specs.Record.{Record, KeyKind, ending}
use Rattle.model_dump.specs.Adds.{Progress, Adds}
use Rattle.model_dump.specs.Dump.{Leads, Reads}
use Rattle.model_dump.specs.Text.{record_of_meta, records_of_key, records_of, text}
use Rattle.model_maps.specs.Limits.{IsLimitedMeta, IsLimitedKey, IsLimited}
use Rattle.general_words.proofs.Maps.{get-insert_same, insert-insert}
use Rattle.general_words.proofs.Fronts.{next_is_new, next_is_there, next_joins, none_left, all_left, sum_by-front}
use Rattle.model_maps.proofs.MapLemmas.{weight-insert}
use Rattle.model_dump.proofs.AddsOnce.{Adds-once}
use Rattle.model_dump.proofs.Readings.{Reads-once}

-- records that lead on from where others led
pub Leads-append : (Step : Progress → Record → Progress → Type 0) (rs ss : List Record) (before middle after : Progress)
    → Leads Step before rs middle → Leads Step middle ss after → Leads Step before (rs ++ ss) after
Leads-append Step [] ss before middle after p q = subst (λ b. Leads Step b ss after) (sym p) q
Leads-append Step (r ∷ rs) ss before middle after p q = (p.0, p.1, p.2, Leads-append Step rs ss p.0 middle after p.3 q)

-- how far a dump was read when the present key had a part of its metadata
abbrev at : KeyMap → Name → List ℕ → Meta → Progress
at before name value meta =
    record { keys = finite.insert before name (record { value = value; meta = meta }); present = Some name }

-- one more metadata of the present key
at_more : (before : KeyMap) (name : Name) (value : List ℕ) (part : Meta) (meta_name meta_text : List ℕ)
    → at before name value (finite.insert part meta_name meta_text)
    ≡ record { keys = finite.insert (at before name value part).keys name (record { value = value; meta = finite.insert part meta_name meta_text }); present = Some name }
at_more before name value part meta_name meta_text =
    let entry : Entry = record { value = value; meta = finite.insert part meta_name meta_text } in
    let again = insert-insert name_cmp_total name_cmp-IsAntisymmetric before name (record { value = value; meta = part }) entry in
    λ i. record { keys = sym again i; present = Some name }

-- what such a map weighs
at_weighs : (before : KeyMap) (name : Name) (value : List ℕ) (whole part : Meta) (rest : List (List ℕ × List ℕ))
    → finite.get before name ≡ None
    → weight before + weight_of_key name (record { value = value; meta = whole }) ≤ heaviest_map
    → finite.entries whole ≡ finite.entries part ++ rest
    → weight (at before name value part).keys ≤ heaviest_map
at_weighs before name value whole part rest new light cut =
    omega (arith, weight-insert before name (record { value = value; meta = part }) new, sum_by-front (λ (m : List ℕ × List ℕ). length m.0 + length m.1) whole part rest cut)

-- the records of the metadata that is left give it to the present key
meta_leads : (before : KeyMap) (name : Name) (value : List ℕ) (whole : Meta) → finite.get before name ≡ None
    → weight before + weight_of_key name (record { value = value; meta = whole }) ≤ heaviest_map
    → ((meta_name meta_text : List ℕ) → finite.get whole meta_name ≡ Some meta_text → IsLimitedMeta meta_name meta_text)
    → (rest : List (List ℕ × List ℕ)) (part : Meta) → finite.entries whole ≡ finite.entries part ++ rest
    → Leads Adds (at before name value part) (map record_of_meta rest) (at before name value whole)
meta_leads before name value whole new light each [] part cut = ap (at before name value) (none_left whole part cut)
meta_leads before name value whole new light each (item ∷ rest) part cut =
    let limited = each item.0 item.1 (next_is_there nat_list_cmp_total whole part item rest cut) in
    let name_limit = limited.is_name.limit in
    let text_limit = limited.is_value.limit in
    let joined = next_joins nat_list_cmp_total whole part item rest cut in
    let adds : Adds (at before name value part) (record_of_meta item) (at before name value (finite.insert part item.0 item.1)) = record {
      adds = record {
        is_name = limited.is_name;
        is_value = limited.is_value;
        puts = record {
          key = name;
          present = refl;
          entry = record { value = value; meta = part };
          found = get-insert_same name_cmp_total before name _;
          is_new = next_is_new nat_list_cmp_total whole part item rest cut;
          added = at_more before name value part item.0 item.1;
        };
      };
      light = at_weighs before name value whole (finite.insert part item.0 item.1) rest new light joined;
    } in
    (_, record { first = omega arith; second = omega arith }, adds, meta_leads before name value whole new light each rest (finite.insert part item.0 item.1) joined)

-- a key's own record
key_adds : (before : KeyMap) (name : Name) (entry : Entry) (present : Option Name) → finite.get before name ≡ None
    → IsLimitedKey name entry → weight before + weight_of_key name entry ≤ heaviest_map
    → Adds (record { keys = before; present = present }) (record { kind = KeyKind; first = relative_text name; second = entry.value }) (at before name entry.value finite.empty)
key_adds before name entry present new limited light = record {
  adds = record {
    name = name;
    spelled = relative_text-spells name limited.is_name limited.cascading;
    is_new = new;
    is_value = limited.is_value;
    added = refl;
  };
  light = at_weighs before name entry.value entry.meta finite.empty (finite.entries entry.meta) new light (all_left entry.meta);
}

-- a key's records add it with its metadata
key_leads : (before : KeyMap) (name : Name) (entry : Entry) (present : Option Name) → finite.get before name ≡ None
    → IsLimitedKey name entry → weight before + weight_of_key name entry ≤ heaviest_map
    → Leads Adds (record { keys = before; present = present }) (records_of_key (name, entry)) (record { keys = finite.insert before name entry; present = Some name })
key_leads before name entry present new limited light =
    let value_limit = limited.is_value.limit in (
      at before name entry.value finite.empty,
      record { first = omega (arith, length-relative_text name limited.is_name); second = omega arith },
      key_adds before name entry present new limited light,
      meta_leads before name entry.value entry.meta new light limited.each_meta (finite.entries entry.meta) finite.empty (all_left entry.meta),
    )

-- the records of the keys that are left make the whole map
keys_lead : (whole : KeyMap) → IsLimited whole → (rest : List (Name × Entry)) (part : KeyMap) (present : Option Name)
    → finite.entries whole ≡ finite.entries part ++ rest
    → (last : Option Name)
    × Leads Adds (record { keys = part; present = present }) (flat_map records_of_key rest) (record { keys = whole; present = last })
keys_lead whole limited [] part present cut =
    (present, λ i. record { keys = none_left whole part cut i; present = present })
keys_lead whole limited (key ∷ rest) part present cut =
    let new = next_is_new name_cmp_total whole part key rest cut in
    let joined = next_joins name_cmp_total whole part key rest cut in
    let light : weight part + weight_of_key key.0 key.1 ≤ heaviest_map =
    omega (arith, limited.light, weight-insert part key.0 key.1 new, sum_by-front (λ (k : Name × Entry). weight_of_key k.0 k.1) whole (finite.insert part key.0 key.1) rest joined) in
    let here = key_leads part key.0 key.1 present new (limited.each key.0 key.1 (next_is_there name_cmp_total whole part key rest cut)) light in
    let later = keys_lead whole limited rest (finite.insert part key.0 key.1) (Some key.0) joined in
    (later.0, Leads-append Adds (records_of_key key) (flat_map records_of_key rest) _ _ _ here later.1)

-- the text of a map within the limits reads as it
pub text-reads : (keys : KeyMap) → IsLimited keys → Reads Adds (text keys) keys
text-reads keys limited =
    let all = keys_lead keys limited (finite.entries keys) no_keys None (all_left keys) in
    inr (record {
      records = records_of keys;
      progress = record { keys = keys; present = all.0 };
      rest = ending ++ 10 ∷ [];
      begins = record { leads = all.1; whole = refl };
      ends = inr refl;
      made = refl;
    })

-- and as no other
pub text-reads_once : (keys other : KeyMap) → IsLimited keys → Reads Adds (text keys) other → other ≡ keys
text-reads_once keys other limited reads =
    Reads-once Adds Adds-once (text keys) other keys reads (text-reads keys limited)

-- so different maps have different texts
pub text-injective : (keys other : KeyMap) → IsLimited keys → IsLimited other → text keys ≡ text other → keys ≡ other
text-injective keys other keys_limited other_limited same =
    text-reads_once other keys other_limited (subst (λ t. Reads Adds t keys) same (text-reads keys keys_limited))
