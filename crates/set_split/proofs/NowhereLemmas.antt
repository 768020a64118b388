-- A parent whose keys stand in no file has nothing to do with the points of mounts.
use Rattle.std.proofs.Common.{◌≡◌, ℕ, ◌<◌, Bool, true, false, true≢false, nat_eq, ◌==◌, List, [], ◌∷◌, length, get_or, slice_get, Option, Some, None, refl, sym, ap, ◌∙◌}
use Rattle.std.specs.List.{filter, list_any, range_with_len}
use Rattle.std.specs.Option.{option_eq}
use Rattle.std.proofs.lemmas.Bool.{and_left, cond-false, eqb-true, false_from_ne_true, or_from}
use Rattle.std.proofs.lemmas.List.Sums.{AllPass-from_list_all}
use Rattle.std.proofs.lemmas.Option.{slice_get_within, get_or_from_slice_get}
use Rattle.model_names.specs.declared.namespaces.Namespace.{Namespace}
use Rattle.model_names.specs.Below.{is_at_or_below}
use Rattle.model_names.specs.Name.{Name, rank}
use Rattle.model_names.specs.Namespaces.{file_namespaces, has_files}
use Rattle.key_name.specs.Owner.{IsPoints, owner_of}
use Rattle.key_name.proofs.OwnerLemmas.{owner_of-none}
use Rattle.set_split.specs.Involved.{involved_in, is_involved, is_involved_at, stands_below}

filter-none : {A : Type 0} (p : A → Bool) (xs : List A) → ((x : A) → p x ≡ false) → filter p xs ≡ []
filter-none p [] none = refl
filter-none p (x ∷ xs) none = cond-false (p x) _ _ (none x) ∙ filter-none p xs none

-- namespaces apart
ranks_differ : (m n : Namespace) → has_files m ≡ false → has_files n ≡ true → (rank m ≡ rank n → ⊥)
ranks_differ m n without with e =
    true≢false (sym with ∙ ap (λ r. list_any (λ other. nat_eq r (rank other)) file_namespaces) (sym e) ∙ without)

stands_nowhere : (root : Name) (o : Option Name) → ((point : Name) → o ≡ Some point → is_at_or_below root point ≡ false)
    → stands_below root o ≡ false
stands_nowhere root None none = refl
stands_nowhere root (Some point) none = none point refl

module _ (points : List Name) (parent : Name) (is : IsPoints points) (outside : has_files parent.namespace ≡ false) where
  has : (k : ℕ) (d : Name) → k < length points → has_files (get_or points k d).namespace ≡ true
  has k d lt = AllPass-from_list_all (λ point. has_files point.namespace) points is.in_files k d lt

  none_above : (point : Name) → has_files point.namespace ≡ true → is_at_or_below point parent ≡ false
  none_above point files =
      and_left _ _ (false_from_ne_true _ (λ e. ranks_differ parent.namespace point.namespace outside files (eqb-true _ _ e)))

  none_below : (point : Name) → has_files point.namespace ≡ true → is_at_or_below parent point ≡ false
  none_below point files =
      and_left _ _ (false_from_ne_true _ (λ e. ranks_differ parent.namespace point.namespace outside files (sym (eqb-true _ _ e))))

  unowned : owner_of points parent ≡ None
  unowned = owner_of-none points parent (λ k d lt. none_above (get_or points k d) (has k d lt))

  uninvolved : (i : ℕ) → is_involved_at points i parent ≡ false
  uninvolved i = or_from _ _ (ap (λ o. option_eq nat_eq o (Some i)) unowned) (stands_nowhere parent (slice_get points i) (λ point found.
      none_below point (ap (λ (p : Name). has_files p.namespace) (sym (get_or_from_slice_get points i point point found)) ∙ has i point (slice_get_within points i point found))))

  pub involved-none : (rank parent.namespace == 0) ≡ false → involved_in points parent ≡ []
  involved-none named = filter-none (is_involved points parent) (range_with_len 0 (length points)) (λ i.
      ap (list_any (is_involved_at points i)) (cond-false (rank parent.namespace == 0) _ (parent ∷ []) named) ∙ or_from _ _ (uninvolved i) refl)
