-- A mount owns no name that is not at or below its point.
use Rattle.std.proofs.Common.{◌≡◌, ℕ, true, false, nat_eq, true≢false, List, get_or, Option, Some, None, refl, sym, ap, ◌∙◌, eqb-true}
use Rattle.std.specs.List.{list_any}
use Rattle.std.specs.Option.{option_map_or}
use Rattle.std.proofs.lemmas.Bool.{and_parts, false_from_ne_true}
use Rattle.std.proofs.lemmas.List.Folds.{Any-from_list_any, list_any_at}
use Rattle.std.proofs.lemmas.List.Quantifiers.{position-Some}
use Rattle.std.proofs.lemmas.Option.{slice_get-get_or}
use Rattle.key_name.specs.Owner.{is_longest, owner_of}
use Rattle.model_names.specs.Below.{is_at_or_below}
use Rattle.model_names.specs.Name.{Name}
use Rattle.model_specified.specs.Violations.{is_owned}
use Rattle.plugin_chain.specs.Owners.{is_below_at}

module _ (points : List Name) (mounts : List ℕ) (name : Name) where
  owner_below : (i : ℕ) → owner_of points name ≡ Some i → is_below_at points name i ≡ true
  owner_below i is =
      let found = position-Some (is_longest points name) points i name is in
      ap (λ point. option_map_or (λ p. is_at_or_below p name) point false) (slice_get-get_or points i name found.0)
      ∙ (and_parts (is_at_or_below (get_or points i name) name) _ found.1).0

  pub not_owned : list_any (is_below_at points name) mounts ≡ false → is_owned points mounts name ≡ false
  not_owned none = by (owner_of points name) refl
    where
      by : (o : Option ℕ) → owner_of points name ≡ o
          → option_map_or (λ owner. list_any (nat_eq owner) mounts) o false ≡ false
      by None is = refl
      by (Some i) is = false_from_ne_true _ (λ among.
          let there = Any-from_list_any (nat_eq i) mounts among in
          let same : i ≡ there.1 = eqb-true i there.1 there.4 in
          let below = ap (is_below_at points name) (there.3 ∙ sym same) ∙ owner_below i is in
          true≢false (sym (list_any_at (is_below_at points name) mounts there.0 there.1 there.2 below) ∙ none))
