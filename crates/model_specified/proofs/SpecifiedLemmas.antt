-- The keys of the specified set, and what it has at a name.
use Rattle.std.proofs.Common.{◌≡◌, true, false, cond, ◌&&◌, T, List, [], ◌∷◌, map, Some, refl, sym, ap, subst, ◌∙◌}
use Rattle.std.specs.FinMap as finite
use Rattle.std.specs.FinMap.{IsAntisymmetric, find, is_sorted}
use Rattle.std.specs.FinMap.Entries.{below_all}
use Rattle.std.specs.Option.{option_map}
use Rattle.std.specs.Ordering.{eq_by_cmp, is_lt}
use Rattle.std.specs.declared.cmp.Ordering.{Ordering}
use Rattle.general_words.proofs.Orders.{tied}
use Rattle.model_names.specs.Name.{Name}
use Rattle.model_names.specs.Order.{name_cmp}
use Rattle.model_names.proofs.OrderLemmas.{name_cmp-IsAntisymmetric}
use Rattle.model_maps.specs.KeyMap.{KeyMap}
use Rattle.model_specified.specs.SpecMeta.{spec_keys}
use Rattle.model_specified.specs.Specified.{specified, specified_entry, specified_key, with_defaults}

module _ {K X Y : Type 0} (R : K → K → Ordering) (f : K → X → Y) where
  -- entries whose values change by their keys
  abbrev pub changed : List (K × X) → List (K × Y)
  changed es = map (λ e. (e.0, f e.0 e.1)) es

  below_all-changed : (x : K) (es : List (K × X)) → below_all R x (changed es) ≡ below_all R x es
  below_all-changed x [] = refl
  below_all-changed x (e ∷ es) = ap (λ b. is_lt (R x e.0) && b) (below_all-changed x es)

  pub is_sorted-changed : (es : List (K × X)) → is_sorted R (changed es) ≡ is_sorted R es
  is_sorted-changed [] = refl
  is_sorted-changed (e ∷ es) = λ i. below_all-changed e.0 es i && is_sorted-changed es i

  pub find-changed : IsAntisymmetric R → (q : K) (es : List (K × X))
      → find R q (changed es) ≡ option_map (f q) (find R q es)
  find-changed same q [] = refl
  find-changed same q (e ∷ es) = elim (eq_by_cmp R q e.0) as (λ b. eq_by_cmp R q e.0 ≡ b → cond b (Some (f e.0 e.1)) (find R q (changed es)) ≡ option_map (f q) (cond b (Some e.1) (find R q es))) [
    | true ↦ λ is. let alike : e.0 ≡ q = sym (same q e.0 (tied _ is)) in ap (λ k. Some (f k e.1)) alike
    | false ↦ λ is. find-changed same q es
  ] refl

pub entries-specified : (keys : KeyMap)
    → finite.entries (specified keys)
    ≡ map (specified_key (spec_keys keys)) (finite.entries (with_defaults (spec_keys keys) keys))
entries-specified keys =
    let all = finite.entries (with_defaults (spec_keys keys) keys) in
    finite.entries-from_sorted name_cmp (map (specified_key (spec_keys keys)) all) (subst T (sym (is_sorted-changed name_cmp (specified_entry (spec_keys keys)) all)) (finite.entries_sorted (with_defaults (spec_keys keys) keys)))

pub get-specified : (keys : KeyMap) (name : Name)
    → finite.get (specified keys) name
    ≡ option_map (specified_entry (spec_keys keys) name) (finite.get (with_defaults (spec_keys keys) keys) name)
get-specified keys name =
    let all = finite.entries (with_defaults (spec_keys keys) keys) in
    finite.get-entries (specified keys) name
    ∙ ap (find name_cmp name) (entries-specified keys)
    ∙ find-changed name_cmp (specified_entry (spec_keys keys)) name_cmp-IsAntisymmetric name all
    ∙ ap (option_map (specified_entry (spec_keys keys) name)) (sym (finite.get-entries (with_defaults (spec_keys keys) keys) name))
