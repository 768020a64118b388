-- Of each record it can be told whether it has a reading behind the records before it.
use Rattle.std.specs.Prelude.{◌≡◌, ℕ, ◌≤◌, List, ◌∷◌, Some}
use Rattle.std.specs.FinMap as map
use Rattle.std.proofs.Common.{refl, sym, ap, subst, ◌∙◌, inl, inr}
use Rattle.general_words.proofs.Lists.{found_once, not_both}
use Rattle.model_names.specs.Name.{Name}
use Rattle.model_names.specs.Spells.{Spells}
use Rattle.model_names.proofs.SpellsLemmas.{Spells-once}
use Rattle.model_maps.specs.Entry.{Entry}
use Rattle.model_maps.specs.KeyMap.{weight, heaviest_map}
use Rattle.model_formats.proofs.Telling.{IsTold, told-along, le-told, value-told, meta_name-told, spells-told, option-told, names-told}
use Rattle.model_dump.specs.Record.{RecordKind, KeyKind, MetaKind, CopyKind, Record}
use Rattle.model_dump.specs.Adds.{Progress, AddsKey, PutsMeta, AddsMeta, CopiesMeta, AddsBy, Adds}
use Rattle.model_dump.proofs.AddsOnce.{AddsBy-once}

-- the map after a record
abbrev Told : (Progress → Type 0) → Type 0
Told After = IsTold ((after : Progress) × After after)

key-told : (before : Progress) (text value : List ℕ) → Told (AddsKey before text value)
key-told before text value = elim (spells-told (47 ∷ text)) as (λ _. Told (AddsKey before text value)) [
  | inl spelled ↦ elim (option-told (map.get before.keys spelled.0)) as (λ _. Told (AddsKey before text value)) [
    | inl none ↦ told-along
        (λ is_value. (_, record { name = spelled.0; spelled = spelled.1; is_new = none; is_value = is_value; added = refl }))
        (λ (added : (after : Progress) × AddsKey before text value after). added.1.is_value)
        (value-told value)
    | inr found ↦ inr (λ (added : (after : Progress) × AddsKey before text value after).
        let same = Spells-once (47 ∷ text) added.1.name spelled.0 added.1.spelled spelled.1 in
        not_both found.0 added.1.is_new (ap (map.get before.keys) same ∙ found.1))
  ]
  | inr fails ↦ inr (λ (added : (after : Progress) × AddsKey before text value after). fails (added.1.name, added.1.spelled))
]

puts-told : (before : Progress) (name text : List ℕ) → Told (PutsMeta before name text)
puts-told before name text = elim (option-told before.present) as (λ _. Told (PutsMeta before name text)) [
  | inl none ↦ inr (λ (puts : (after : Progress) × PutsMeta before name text after). not_both puts.1.key none puts.1.present)
  | inr key ↦ elim (option-told (map.get before.keys key.0)) as (λ _. Told (PutsMeta before name text)) [
    | inl none ↦ inr (λ (puts : (after : Progress) × PutsMeta before name text after).
        not_both puts.1.entry none (ap (map.get before.keys) (found_once key.0 puts.1.key key.1 puts.1.present) ∙ puts.1.found))
    | inr entry ↦ elim (option-told (map.get entry.0.meta name)) as (λ _. Told (PutsMeta before name text)) [
      | inl is_new ↦ inl (_, record { key = key.0; present = key.1; entry = entry.0; found = entry.1; is_new = is_new; added = refl })
      | inr taken ↦ inr (λ (puts : (after : Progress) × PutsMeta before name text after).
          let keys = found_once key.0 puts.1.key key.1 puts.1.present in
          let entries = found_once entry.0 puts.1.entry entry.1 (ap (map.get before.keys) keys ∙ puts.1.found) in
          not_both taken.0 puts.1.is_new (ap (λ (e : Entry). map.get e.meta name) (sym entries) ∙ taken.1))
    ]
  ]
]

meta-told : (before : Progress) (name text : List ℕ) → Told (AddsMeta before name text)
meta-told before name text = elim (meta_name-told name) as (λ _. Told (AddsMeta before name text)) [
  | inl is_name ↦ elim (value-told text) as (λ _. Told (AddsMeta before name text)) [
    | inl is_value ↦ told-along
        (λ (puts : (after : Progress) × PutsMeta before name text after). (puts.0, record { is_name = is_name; is_value = is_value; puts = puts.1 }))
        (λ (added : (after : Progress) × AddsMeta before name text after). (added.0, added.1.puts))
        (puts-told before name text)
    | inr fails ↦ inr (λ (added : (after : Progress) × AddsMeta before name text after). fails added.1.is_value)
  ]
  | inr fails ↦ inr (λ (added : (after : Progress) × AddsMeta before name text after). fails added.1.is_name)
]

copy-told : (before : Progress) (source_text name : List ℕ) → Told (CopiesMeta before source_text name)
copy-told before source_text name = elim (spells-told (47 ∷ source_text)) as (λ _. Told (CopiesMeta before source_text name)) [
  | inl spelled ↦ from spelled.0 spelled.1
  | inr fails ↦ inr (λ (copies : (after : Progress) × CopiesMeta before source_text name after). fails (copies.1.source, copies.1.spelled))
]
  where
    earlier-told : (source : Name) → IsTold (before.present ≡ Some source)
    earlier-told source = elim (option-told before.present) as (λ _. IsTold (before.present ≡ Some source)) [
      | inl none ↦ inr (λ is. not_both source none is)
      | inr key ↦ told-along (λ same. key.1 ∙ ap Some same) (λ is. found_once key.0 source key.1 is) (names-told key.0 source)
    ]

    from : (source : Name) → Spells (47 ∷ source_text) source → Told (CopiesMeta before source_text name)
    from source spells = elim (earlier-told source) as (λ _. Told (CopiesMeta before source_text name)) [
      | inl present ↦ inr (λ (copies : (after : Progress) × CopiesMeta before source_text name after). copies.1.earlier (present ∙ ap Some (same copies.1)))
      | inr earlier ↦ elim (option-told (map.get before.keys source)) as (λ _. Told (CopiesMeta before source_text name)) [
        | inl none ↦ inr (λ (copies : (after : Progress) × CopiesMeta before source_text name after).
            not_both copies.1.entry none (ap (map.get before.keys) (same copies.1) ∙ copies.1.found))
        | inr entry ↦ elim (option-told (map.get entry.0.meta name)) as (λ _. Told (CopiesMeta before source_text name)) [
          | inl none ↦ inr (λ (copies : (after : Progress) × CopiesMeta before source_text name after).
              not_both copies.1.text none (ap (λ (e : Entry). map.get e.meta name) (entries entry.0 entry.1 copies.1) ∙ copies.1.has))
          | inr text ↦ told-along
              (λ (puts : (after : Progress) × PutsMeta before name text.0 after). (puts.0, record { source = source; spelled = spells; earlier = earlier; entry = entry.0; found = entry.1; text = text.0; has = text.1; puts = puts.1 }))
              (λ (copies : (after : Progress) × CopiesMeta before source_text name after).
              let texts : text.0 ≡ copies.1.text = found_once text.0 copies.1.text text.1 (ap (λ (e : Entry). map.get e.meta name) (entries entry.0 entry.1 copies.1) ∙ copies.1.has) in
              (copies.0, subst (λ t. PutsMeta before name t copies.0) (sym texts) copies.1.puts))
              (puts-told before name text.0)
        ]
      ]
    ]
      where
        same : {after : Progress} (copies : CopiesMeta before source_text name after) → source ≡ copies.source
        same copies = Spells-once (47 ∷ source_text) source copies.source spells copies.spelled

        entries : {after : Progress} (entry : Entry) → map.get before.keys source ≡ Some entry
            → (copies : CopiesMeta before source_text name after) → entry ≡ copies.entry
        entries entry found copies =
            found_once entry copies.entry found (ap (map.get before.keys) (same copies) ∙ copies.found)

by-told : (kind : RecordKind) (before : Progress) (first second : List ℕ) → Told (AddsBy kind before first second)
by-told KeyKind = key-told
by-told MetaKind = meta-told
by-told CopyKind = copy-told

-- a record has a reading or none
pub Adds-told : (before : Progress) (r : Record) → IsTold ((after : Progress) × Adds before r after)
Adds-told before r = elim (by-told r.kind before r.first r.second) as (λ _. IsTold ((after : Progress) × Adds before r after)) [
  | inl by ↦ told-along
      (λ light. (by.0, record { adds = by.1; light = light }))
      (λ (added : (after : Progress) × Adds before r after). subst (λ (p : Progress). weight p.keys ≤ heaviest_map) (AddsBy-once r.kind before r.first r.second added.0 by.0 added.1.adds by.1) added.1.light)
      (le-told (weight by.0.keys) heaviest_map)
  | inr fails ↦ inr (λ (added : (after : Progress) × Adds before r after). fails (added.0, added.1.adds))
]
