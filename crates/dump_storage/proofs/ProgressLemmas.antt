-- What a record adds to a progress whose present key stands apart.
use Rattle.std.proofs.Common.{◌≡◌, ◌≢◌, ◌⊎◌, ℕ, ◌+◌, ◌<◌, ◌≤◌, List, ◌∷◌, length, Option, Some, None, refl, sym, ap, subst, ◌∙◌, inl, inr, arith}
use Rattle.std.specs.FinMap as map
use Rattle.model_names.specs.Name.{Name}
use Rattle.model_names.specs.Order.{name_cmp}
use Rattle.model_names.specs.Spelling.{path}
use Rattle.model_names.specs.Spells.{Spells}
use Rattle.model_names.proofs.OrderLemmas.{name_cmp_total, name_cmp-IsAntisymmetric}
use Rattle.model_names.proofs.SpellsLemmas.{Spells-once}
use Rattle.model_maps.specs.Entry.{Entry, plain_entry, IsValue, IsMetaName, with_meta}
use Rattle.model_maps.specs.KeyMap.{KeyMap, no_keys, weight, key_weight, heaviest_map}
use Rattle.model_dump.specs.Record.{Record, KeyKind, MetaKind, CopyKind}
use Rattle.model_dump.specs.Adds.{Progress, PutsMeta, Adds}
use Rattle.general_words.proofs.Maps.{insert-insert, get-insert_same}
use Rattle.model_maps.proofs.MapLemmas.{weight-insert, weight-no_keys, weight_of_key-plain, weight_of_key-meta}
use Rattle.dump_storage.specs.Texts.{SpellsNothing}
use Rattle.dump_storage.specs.ProgressView.{AddsNothing, HasMetaNames, IsSound}
use Rattle.dump_storage.proofs.NameLemmas.{Spells-cascading, spelling-cascading}
use Rattle.general_words.proofs.Lookups.{get-elsewhere, get-cases, get-apart}

-- a record of each kind
abbrev pub key_record : List ℕ → List ℕ → Record
key_record text value = record { kind = KeyKind; first = text; second = value }

abbrev pub meta_record : List ℕ → List ℕ → Record
meta_record name text = record { kind = MetaKind; first = name; second = text }

abbrev pub copy_record : List ℕ → List ℕ → Record
copy_record source name = record { kind = CopyKind; first = source; second = name }

module _ (before : Progress) (text value : List ℕ) where
  -- the progress behind a key
  abbrev pub behind_key : Name → Progress
  behind_key name = record { keys = map.insert before.keys name (plain_entry value); present = Some name }

  pub weight-key : (name : Name) → Spells (47 ∷ text) name → map.get before.keys name ≡ None
      → weight (behind_key name).keys ≡ weight before.keys + (key_weight + length (path name)) + length value
  weight-key name spells none =
      omega (arith, weight-insert before.keys name (plain_entry value) none, weight_of_key-plain name value, ap length (spelling-cascading name (Spells-cascading text name spells)))

  pub Adds-key : (name : Name) → Spells (47 ∷ text) name → map.get before.keys name ≡ None → IsValue value
      → weight before.keys + (key_weight + length (path name)) + length value ≤ heaviest_map
      → Adds before (key_record text value) (behind_key name)
  Adds-key name spells none is_value light = record {
    adds = record { name = name; spelled = spells; is_new = none; is_value = is_value; added = refl };
    light = omega (arith, weight-key name spells none);
  }

  pub AddsNothing-no_name : SpellsNothing text → AddsNothing before (key_record text value)
  AddsNothing-no_name nothing after adds = nothing adds.adds.name adds.adds.spelled

  -- the name that the text spells is the one that was read
  new_name : (name : Name) → Spells (47 ∷ text) name → (after : Progress) → Adds before (key_record text value) after
      → (map.get before.keys name ≡ None) × (after ≡ behind_key name)
  new_name name spells after adds =
      let same = Spells-once (47 ∷ text) adds.adds.name name adds.adds.spelled spells in
      (ap (map.get before.keys) (sym same) ∙ adds.adds.is_new, adds.adds.added ∙ ap behind_key same)

  pub AddsNothing-heavy_key : (name : Name) → Spells (47 ∷ text) name
      → heaviest_map < weight before.keys + (key_weight + length (path name)) + length value
      → AddsNothing before (key_record text value)
  AddsNothing-heavy_key name spells heavy after adds =
      let new = new_name name spells after adds in
      let same : weight after.keys ≡ weight (behind_key name).keys = ap (λ (p : Progress). weight p.keys) new.1 in
      omega (arith, adds.light, same, weight-key name spells new.0)

pub AddsNothing-no_source : (before : Progress) (source name : List ℕ) → SpellsNothing source
    → AddsNothing before (copy_record source name)
AddsNothing-no_source before source name nothing after adds = nothing adds.adds.source adds.adds.spelled

-- a key behind the keys before it
module _ (keys : KeyMap) (key : Name) (entry : Entry) (apart : map.get keys key ≡ None) where
  abbrev pub at_key : Entry → Progress
  at_key e = record { keys = map.insert keys key e; present = Some key }

  present_found : (e : Entry) → map.get (map.insert keys key entry) key ≡ Some e → entry ≡ e
  present_found e found =
      let here : ◌≡◌ {A = Option Entry} (Some entry) (Some e) = sym (get-insert_same name_cmp_total keys key entry) ∙ found in cc

  pub weight-meta : (name text : List ℕ) → map.get entry.meta name ≡ None
      → weight (map.insert keys key (with_meta entry name text))
      ≡ weight (map.insert keys key entry) + length name + length text
  weight-meta name text none =
      omega (arith, weight-insert keys key entry apart, weight-insert keys key (with_meta entry name text) apart, weight_of_key-meta key entry name text none)

  pub PutsMeta-new : (name text : List ℕ) → map.get entry.meta name ≡ None
      → PutsMeta (at_key entry) name text (at_key (with_meta entry name text))
  PutsMeta-new name text none = record {
    key = key;
    present = refl;
    entry = entry;
    found = get-insert_same name_cmp_total keys key entry;
    is_new = none;
    added = ap (λ (m : KeyMap). record { keys = m; present = Some key }) (sym (insert-insert name_cmp_total name_cmp-IsAntisymmetric keys key entry (with_meta entry name text)));
  }

  -- what puts metadata finds the present key, which hasn't the name
  put_is : (name text : List ℕ) (after : Progress) → PutsMeta (at_key entry) name text after
      → (map.get entry.meta name ≡ None) × (after.keys ≡ map.insert keys key (with_meta entry name text))
  put_is name text after puts =
      let keys_same : key ≡ puts.key = cc in
      let entries : entry ≡ puts.entry = present_found puts.entry (ap (map.get (map.insert keys key entry)) keys_same ∙ puts.found) in (
        ap (λ (e : Entry). map.get e.meta name) entries ∙ puts.is_new,
        ap (λ (p : Progress). p.keys) puts.added
            ∙ ap (λ (k : Name). map.insert (map.insert keys key entry) k (with_meta puts.entry name text)) (sym keys_same)
            ∙ ap (λ (e : Entry). map.insert (map.insert keys key entry) key (with_meta e name text)) (sym entries)
            ∙ insert-insert name_cmp_total name_cmp-IsAntisymmetric keys key entry (with_meta entry name text),
      )

  -- the name is taken, or the map would be too heavy
  abbrev pub CannotPut : List ℕ → List ℕ → Type 0
  CannotPut name text =
      map.get entry.meta name ≡ None → heaviest_map < weight (map.insert keys key entry) + length name + length text

  too_heavy : (name text : List ℕ) (after : Progress) → CannotPut name text → PutsMeta (at_key entry) name text after
      → weight after.keys ≤ heaviest_map → ⊥
  too_heavy name text after cannot puts light =
      let is = put_is name text after puts in
      let same : weight after.keys ≡ weight (map.insert keys key (with_meta entry name text)) = ap weight is.1 in
      omega (arith, cannot is.0, weight-meta name text is.0)

  pub Adds-meta : (name text : List ℕ) → IsMetaName name → IsValue text → map.get entry.meta name ≡ None
      → weight (map.insert keys key entry) + length name + length text ≤ heaviest_map
      → Adds (at_key entry) (meta_record name text) (at_key (with_meta entry name text))
  Adds-meta name text is_name is_value none light = record {
    adds = record { is_name = is_name; is_value = is_value; puts = PutsMeta-new name text none };
    light = omega (arith, weight-meta name text none);
  }

  pub AddsNothing-put : (name text : List ℕ) → CannotPut name text → AddsNothing (at_key entry) (meta_record name text)
  AddsNothing-put name text cannot after adds = too_heavy name text after cannot adds.adds.puts adds.light

  -- a key that metadata is copied from stands among the keys before the present one
  source_before : (source : Name) (e : Entry) → (at_key entry).present ≢ Some source
      → map.get (map.insert keys key entry) source ≡ Some e → map.get keys source ≡ Some e
  source_before source e earlier found =
      sym (get-elsewhere name_cmp_total name_cmp-IsAntisymmetric keys key entry source (λ same. earlier (ap Some (sym same))))
      ∙ found

  module _ (text : List ℕ) (source : Name) (spells : Spells (47 ∷ text) source) where
    copied_from : (name : List ℕ) (after : Progress) (adds : Adds (at_key entry) (copy_record text name) after)
        → map.get keys source ≡ Some adds.adds.entry
    copied_from name after adds =
        let copies = adds.adds in
        let same = Spells-once (47 ∷ text) copies.source source copies.spelled spells in
        ap (map.get keys) (sym same) ∙ source_before copies.source copies.entry copies.earlier copies.found

    pub AddsNothing-no_earlier : (name : List ℕ) → map.get keys source ≡ None
        → AddsNothing (at_key entry) (copy_record text name)
    AddsNothing-no_earlier name none after adds = let found = copied_from name after adds in absurd cc

    module _ (e : Entry) (found : map.get keys source ≡ Some e) where
      copied_text : (name : List ℕ) (after : Progress) (adds : Adds (at_key entry) (copy_record text name) after)
          → map.get e.meta name ≡ Some adds.adds.text
      copied_text name after adds =
          let one : ◌≡◌ {A = Option Entry} (Some e) (Some adds.adds.entry) = sym found ∙ copied_from name after adds in
          let same : e ≡ adds.adds.entry = cc in
          ap (λ (x : Entry). map.get x.meta name) same ∙ adds.adds.has

      pub AddsNothing-no_meta : (name : List ℕ) → map.get e.meta name ≡ None
          → AddsNothing (at_key entry) (copy_record text name)
      AddsNothing-no_meta name none after adds = let has = copied_text name after adds in absurd cc

      pub AddsNothing-put_copy : (name copied : List ℕ) → map.get e.meta name ≡ Some copied → CannotPut name copied
          → AddsNothing (at_key entry) (copy_record text name)
      AddsNothing-put_copy name copied has cannot after adds =
          let one : ◌≡◌ {A = Option (List ℕ)} (Some adds.adds.text) (Some copied) = sym (copied_text name after adds) ∙ has in
          let same : adds.adds.text ≡ copied = cc in
          too_heavy name copied after cannot (subst (λ (t : List ℕ). PutsMeta (at_key entry) name t after) same adds.adds.puts) adds.light

      pub Adds-copy : (name copied : List ℕ) → map.get e.meta name ≡ Some copied → map.get entry.meta name ≡ None
          → weight (map.insert keys key entry) + length name + length copied ≤ heaviest_map
          → Adds (at_key entry) (copy_record text name) (at_key (with_meta entry name copied))
      Adds-copy name copied has none light =
          let other = get-apart name_cmp_total name_cmp-IsAntisymmetric keys key entry source e apart found in record {
            adds = record {
              source = source;
              spelled = spells;
              earlier = λ present. other (let same : ◌≡◌ {A = Option Name} (Some key) (Some source) = present in cc);
              entry = e;
              found = get-elsewhere name_cmp_total name_cmp-IsAntisymmetric keys key entry source other ∙ found;
              text = copied;
              has = has;
              puts = PutsMeta-new name copied none;
            };
            light = omega (arith, weight-meta name copied none);
          }

-- metadata has names that it may have behind each insertion
pub HasMetaNames-insert : (keys : KeyMap) (key : Name) (entry : Entry) → HasMetaNames keys
    → ((name text : List ℕ) → map.get entry.meta name ≡ Some text → IsMetaName name)
    → HasMetaNames (map.insert keys key entry)
HasMetaNames-insert keys key entry names own q e name text found has =
    cases (get-cases name_cmp_total name_cmp-IsAntisymmetric keys key entry q e found)
  where
    cases : (map.get keys q ≡ Some e) ⊎ ((q ≡ key) × (entry ≡ e)) → IsMetaName name
    cases (inl before) = names q e name text before has
    cases (inr here) = own name text (ap (λ (x : Entry). map.get x.meta name) here.1 ∙ has)

-- nothing was read
pub IsSound-start : (keys : KeyMap) → keys ≡ no_keys → IsSound (record { keys = keys; present = None; weight = 0 })
IsSound-start keys none = record {
  apart = tt;
  weighed = sym (ap weight none ∙ weight-no_keys);
  light = omega arith;
  meta_names = λ name entry meta_name text found has. let missing = sym (ap (λ (m : KeyMap). map.get m name) none ∙ map.get-empty name_cmp name) ∙ found in absurd cc;
}
