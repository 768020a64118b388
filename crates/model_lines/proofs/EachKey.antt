-- A property of each key of a map, where the map grows by a key, and at each key alone.
use Rattle.std.specs.Prelude.{◌≡◌, Option, None, Some}
use Rattle.std.proofs.Common.{sym, subst, ◌∙◌, inl, inr}
use Rattle.std.specs.FinMap as finite
use Rattle.model_names.specs.Name.{Name}
use Rattle.model_names.specs.Order.{name_cmp}
use Rattle.model_names.proofs.OrderLemmas.{name_cmp_total, name_cmp-IsAntisymmetric}
use Rattle.model_maps.specs.Entry.{Entry}
use Rattle.model_maps.specs.KeyMap.{KeyMap, no_keys}
use Rattle.model_formats.specs.Holding.{EachHas}
use Rattle.general_words.proofs.Maps.{get-insert_same}
use Rattle.model_maps.proofs.MapLemmas.{found_in_insert}

pub found_nowhere : (name : Name) (entry : Entry) → finite.get no_keys name ≡ Some entry → ⊥
found_nowhere name entry found =
    let none : ◌≡◌ {A = Option Entry} None (Some entry) = sym (finite.get-empty name_cmp name) ∙ found in absurd cc

-- of what a map holds behind an insertion, this is what was inserted, and that stood there before
pub found_in_grown : (keys : KeyMap) (name : Name) (entry : Entry) (P : Name → Entry → Type 0) → P name entry
    → ((q : Name) (e : Entry) → finite.get keys q ≡ Some e → P q e)
    → (q : Name) (e : Entry) → finite.get (finite.insert keys name entry) q ≡ Some e → P q e
found_in_grown keys name entry P here there q e found =
    elim (found_in_insert name_cmp_total name_cmp-IsAntisymmetric keys name entry q e found) as (λ _. P q e) [
      | inl same ↦ subst (λ n. P n e) (sym same.0) (subst (P name) same.1 here)
      | inr before ↦ there q e before
    ]

module _ (Has : Name → Entry → Type 0) where
  pub EachHas-no_keys : EachHas Has no_keys
  EachHas-no_keys name entry found = absurd (found_nowhere name entry found)

  -- a key with the property joins keys that have it
  pub EachHas-insert : (keys : KeyMap) (name : Name) (entry : Entry) → EachHas Has keys → Has name entry
      → EachHas Has (finite.insert keys name entry)
  EachHas-insert keys name entry each has = found_in_grown keys name entry Has has each

  -- each key alone has it
  pub EachHas-alone : (keys : KeyMap) → EachHas Has keys → (name : Name) (entry : Entry)
      → finite.get keys name ≡ Some entry → EachHas Has (finite.insert no_keys name entry)
  EachHas-alone keys each name entry found = EachHas-insert no_keys name entry EachHas-no_keys (each name entry found)

  pub EachHas-from_alone : (keys : KeyMap)
      → ((name : Name) (entry : Entry) → finite.get keys name ≡ Some entry → EachHas Has (finite.insert no_keys name entry))
      → EachHas Has keys
  EachHas-from_alone keys each name entry found =
      each name entry found name entry (get-insert_same name_cmp_total no_keys name entry)
