-- A line leads to one map at most, it can be told whether to any, and it keeps a map that can be stored.
use Rattle.std.specs.Prelude.{◌≡◌, ◌≢◌, ℕ, ◌≤◌, List, [], ◌∷◌, Option, Some, None}
use Rattle.std.proofs.Common.{refl, sym, ap, subst, ◌∙◌, arith, inl, inr}
use Rattle.std.specs.FinMap as finite
use Rattle.model_names.specs.Name.{Name}
use Rattle.model_names.specs.Spells.{Spells}
use Rattle.model_names.proofs.NameLemmas.{spelled_is_name, slash_is_cascading}
use Rattle.model_names.proofs.SpellsLemmas.{Spells-once}
use Rattle.general_words.specs.Texts.{text_cmp}
use Rattle.model_maps.specs.Entry.{Entry, plain_entry, IsValue}
use Rattle.model_maps.specs.KeyMap.{KeyMap, no_keys, weight, heaviest_map}
use Rattle.model_maps.specs.Limits.{IsLimitedKey, IsLimited}
use Rattle.model_lines.specs.Lines.{lines}
use Rattle.model_lines.proofs.Leading.{IsFunctional, IsDecided, Leads-kept}
use Rattle.model_lines.proofs.LineLemmas.{lines-in_line, IsInLine}
use Rattle.model_lines.proofs.EachKey.{EachHas-no_keys, EachHas-insert}
use Rattle.model_maps.proofs.MapLemmas.{weight-no_keys}
use Rattle.model_lines.proofs.Telling.{IsTold, IsFound, both-told, le-told, none-told, some-told, utf8-told, value-told, spelled-told, meta-told}
use Rattle.model_ini.specs.Line.{Meaning, Skipped, Pair, Unreadable, meaning}
use Rattle.model_ini.specs.Ini.{AddsKey, Does, Step, Reads, IsIniKey, IsStorable}
use Rattle.std.specs.List.{AllByRecursion}

-- ---- one map

AddsKey-once : (before : KeyMap) (text value : List ℕ) (a b : KeyMap) → AddsKey before text value a
    → AddsKey before text value b → a ≡ b
AddsKey-once before text value a b p q =
    let same = Spells-once (47 ∷ text) p.name q.name p.spelled q.spelled in
    p.added ∙ ap (λ name. finite.insert before name (plain_entry value)) same ∙ sym q.added

Does-once : (m : Meaning) (before a b : KeyMap) → Does m before a → Does m before b → a ≡ b
Does-once Skipped before a b p q = p ∙ sym q
Does-once (Pair text value) before a b p q = AddsKey-once before text value a b p q
Does-once Unreadable before a b p q = absurd p

pub Step-once : IsFunctional Step
Step-once before line a b p q = Does-once (meaning line) before a b p.does q.does

-- ---- whether there is one

-- an entry's conditions, beside the name that it spells
abbrev Fits : KeyMap → List ℕ → Name → Type 0
Fits before value name =
    (name.parts ≢ []) × ((finite.get before name ≡ None) × (IsValue value × (weight (finite.insert before name (plain_entry value)) ≤ heaviest_map)))

fits-told : (before : KeyMap) (value : List ℕ) (name : Name) → IsTold (Fits before value name)
fits-told before value name =
    both-told (some-told name.parts) (both-told (none-told (finite.get before name)) (both-told (value-told value) (le-told (weight (finite.insert before name (plain_entry value))) heaviest_map)))

AddsKey-told : (before : KeyMap) (text value : List ℕ) → IsFound (AddsKey before text value)
AddsKey-told before text value =
    elim (spelled-told (47 ∷ text)) [
      | inl spelled ↦ elim (fits-told before value spelled.0) [
        | inl fits ↦ inl (
          finite.insert before spelled.0 (plain_entry value),
          record {
            name = spelled.0;
            spelled = spelled.1;
            below = fits.0;
            is_new = fits.1.0;
            is_value = fits.1.1.0;
            added = refl;
            light = fits.1.1.1;
          },
        )
        | inr bad ↦ inr (λ after adds.
            let same = Spells-once (47 ∷ text) adds.name spelled.0 adds.spelled spelled.1 in
            let light = subst (λ keys. weight keys ≤ heaviest_map) adds.added adds.light in
            bad (subst (Fits before value) same (adds.below, (adds.is_new, (adds.is_value, light)))))
      ]
      | inr none ↦ inr (λ after adds. none adds.name adds.spelled)
    ]

Does-told : (m : Meaning) (before : KeyMap) → IsFound (Does m before)
Does-told Skipped before = inl (before, refl)
Does-told (Pair text value) before = AddsKey-told before text value
Does-told Unreadable before = inr (λ after h. h)

pub Step-told : IsDecided Step
Step-told before line =
    elim (utf8-told line) [
      | inl utf8 ↦ elim (Does-told (meaning line) before) [
        | inl does ↦ inl (does.0, record { utf8 = utf8; does = does.1 })
        | inr none ↦ inr (λ after step. none after step.does)
      ]
      | inr bad ↦ inr (λ after step. bad step.utf8)
    ]

-- ---- what can be stored

pub IsIniKey-told : (name : Name) (entry : Entry) → IsTold (IsIniKey name entry)
IsIniKey-told name entry =
    elim (both-told (some-told name.parts) (empty-told entry)) [
      | inl h ↦ inl (record { below = h.0; no_meta = h.1 })
      | inr bad ↦ inr (λ key. bad (key.below, key.no_meta))
    ]
  where
    empty-told : (entry : Entry) → IsTold (entry.meta ≡ finite.empty)
    empty-told entry = meta-told entry.meta finite.empty

-- a map that can be stored, within the limits of a file
record IsGood (keys : KeyMap) : Type 0 where
  limited : IsLimited keys
  storable : IsStorable keys

no_keys-good : IsGood no_keys
no_keys-good = record {
  limited = record { each = EachHas-no_keys IsLimitedKey; light = omega (arith, weight-no_keys) };
  storable = EachHas-no_keys IsIniKey;
}

plain-limited : (text value : List ℕ) (name : Name) → Spells (47 ∷ text) name → IsValue value
    → IsLimitedKey name (plain_entry value)
plain-limited text value name spelled is_value = record {
  is_name = spelled_is_name (47 ∷ text) name spelled;
  cascading = slash_is_cascading (47 ∷ text) name refl spelled;
  is_value = is_value;
  each_meta = λ meta_name t found. let none : ◌≡◌ {A = Option (List ℕ)} None (Some t) = sym (finite.get-empty text_cmp meta_name) ∙ found in absurd cc;
}

AddsKey-good : (before : KeyMap) (text value : List ℕ) (after : KeyMap) → IsGood before
    → AddsKey before text value after → IsGood after
AddsKey-good before text value after good adds =
    subst IsGood (sym adds.added) (record {
      limited = record {
        each = EachHas-insert IsLimitedKey before adds.name (plain_entry value) good.limited.each (plain-limited text value adds.name adds.spelled adds.is_value);
        light = subst (λ keys. weight keys ≤ heaviest_map) adds.added adds.light;
      };
      storable = EachHas-insert IsIniKey before adds.name (plain_entry value) good.storable (record { below = adds.below; no_meta = refl });
    })

Does-good : (m : Meaning) (before after : KeyMap) → IsGood before → Does m before after → IsGood after
Does-good Skipped before after good does = subst IsGood (sym does) good
Does-good (Pair text value) before after good does = AddsKey-good before text value after good does
Does-good Unreadable before after good does = absurd does

Reads-good : (bytes : List ℕ) (keys : KeyMap) → Reads bytes keys → IsGood keys
Reads-good bytes keys reads =
    Leads-kept Step IsGood (AllByRecursion IsInLine) (λ before line after fine good step. Does-good (meaning line) before after good step.does) (lines bytes) no_keys keys (lines-in_line bytes) no_keys-good reads

pub Reads-storable : (bytes : List ℕ) (keys : KeyMap) → Reads bytes keys → IsStorable keys
Reads-storable bytes keys reads = (Reads-good bytes keys reads).storable

pub Reads-limited : (bytes : List ℕ) (keys : KeyMap) → Reads bytes keys → IsLimited keys
Reads-limited bytes keys reads = (Reads-good bytes keys reads).limited
