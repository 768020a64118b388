-- The keys at or below a name stand together among the entries of a map.
use Rattle.std.proofs.Common.{◌≡◌, true, false, T, cond, not, List, [], ◌∷◌, ◌++◌, refl, sym, ap, subst, ◌∙◌}
use Rattle.std.specs.FinMap as map
use Rattle.std.specs.FinMap.{is_sorted}
use Rattle.std.specs.FinMap.Entries.{below_all, where_key}
use Rattle.std.specs.Ordering.{is_lt}
use Rattle.std.specs.declared.cmp.Ordering.TheVariants.{Less, Equal, Greater}
use Rattle.model_names.specs.Below.{is_at_or_below}
use Rattle.model_names.specs.Name.{Name}
use Rattle.model_names.specs.Order.{name_cmp}
use Rattle.model_names.proofs.OrderLemmas.{name_cmp_total, name_cmp-IsAntisymmetric}
use Rattle.model_names.proofs.BelowOrder.{at_or_below-not_before, at_or_below-between}
use Rattle.model_maps.specs.KeyMap.{KeyMap}
use Rattle.model_maps.specs.Together.{StandTogether}
use Rattle.general_words.proofs.Tests.{first, second, not_true}
use Rattle.general_words.proofs.Orders.{less}
use Rattle.general_words.proofs.Maps.{entries-retain}

-- who is behind one that is not before a name isn't before it either
pub still_behind : (above x y : Name) → is_lt (name_cmp x above) ≡ false → name_cmp x y ≡ Less
    → is_lt (name_cmp y above) ≡ false
still_behind above x y not_before nearer =
    elim (name_cmp y above) as (λ r. name_cmp y above ≡ r → is_lt r ≡ false) [
      | Less ↦ λ p. sym (ap is_lt (name_cmp_total.trans x y above nearer p)) ∙ not_before
      | Equal ↦ λ p. refl
      | Greater ↦ λ p. refl
    ] refl

module _ {X : Type 0} (above : Name) where
  abbrev inside : List (Name × X) → List (Name × X)
  inside = where_key name_cmp (is_at_or_below above)

  abbrev outside : List (Name × X) → List (Name × X)
  outside = where_key name_cmp (λ name. not (is_at_or_below above name))

  -- behind one that is past them there are none of them
  none_behind : (x : Name) (es : List (Name × X)) → T (below_all name_cmp x es) → is_lt (name_cmp x above) ≡ false
      → is_at_or_below above x ≡ false → (inside es ≡ []) × (outside es ≡ es)
  none_behind x [] h not_before past = (refl, refl)
  none_behind x (e ∷ es) h not_before past =
      let rest = none_behind x es (second _ _ h) not_before past in
      let here : is_at_or_below above e.0 ≡ false = not_true (is_at_or_below above e.0) (λ t. subst T past (at_or_below-between above x e.0 t (less _ (first _ _ h)) not_before)) in
      (ap (λ b. cond b (e ∷ inside es) (inside es)) here ∙ rest.0, ap (λ b. cond (not b) (e ∷ outside es) (outside es)) here ∙ ap (λ fs. e ∷ fs) rest.1)

  -- from one on that is not before the name: first those at or below it, then the others
  abbrev Parted : List (Name × X) → Type 0
  Parted es = (behind : List (Name × X)) × (es ≡ inside es ++ behind) × (outside es ≡ behind)

  parted_more : (e : Name × X) (es : List (Name × X)) → T (is_sorted name_cmp (e ∷ es))
      → is_lt (name_cmp e.0 above) ≡ false → Parted es → Parted (e ∷ es)
  parted_more e es h not_before more = elim (is_at_or_below above e.0) as (λ b. is_at_or_below above e.0 ≡ b → (behind : List (Name × X)) × (e ∷ es ≡ cond b (e ∷ inside es) (inside es) ++ behind) × (cond (not b) (e ∷ outside es) (outside es) ≡ behind)) [
    | true ↦ λ p. (more.0, ap (λ fs. e ∷ fs) more.1, more.2)
    | false ↦ λ p. let rest = none_behind e.0 es (first _ _ h) not_before p in (e ∷ es, ap (λ fs. fs ++ (e ∷ es)) (sym rest.0), ap (λ fs. e ∷ fs) rest.1)
  ] refl

  parted : (e : Name × X) (es : List (Name × X)) → T (is_sorted name_cmp (e ∷ es)) → is_lt (name_cmp e.0 above) ≡ false
      → Parted (e ∷ es)
  parted e [] h not_before = parted_more e [] h not_before ([], refl, refl)
  parted e (f ∷ fs) h not_before =
      parted_more e (f ∷ fs) h not_before (parted f fs (second _ _ h) (still_behind above e.0 f.0 not_before (less _ (first _ _ (first _ _ h)))))

  abbrev Together : List (Name × X) → Type 0
  Together es =
      (before : List (Name × X)) × (behind : List (Name × X)) × (es ≡ before ++ (inside es ++ behind)) × (outside es ≡ before ++ behind)

  together : (es : List (Name × X)) → T (is_sorted name_cmp es) → Together es
  together [] h = ([], [], refl, refl)
  together (e ∷ es) h = elim (is_lt (name_cmp e.0 above)) as (λ b. is_lt (name_cmp e.0 above) ≡ b → Together (e ∷ es)) [
    | true ↦ λ p.
        let rest = together es (second _ _ h) in
        let here : is_at_or_below above e.0 ≡ false = not_true (is_at_or_below above e.0) (λ t. subst T (sym p ∙ at_or_below-not_before above e.0 t) tt) in (
          e ∷ rest.0,
          rest.1,
          ap (λ fs. e ∷ fs) rest.2 ∙ ap (λ b. e ∷ rest.0 ++ (cond b (e ∷ inside es) (inside es) ++ rest.1)) (sym here),
          ap (λ b. cond (not b) (e ∷ outside es) (outside es)) here ∙ ap (λ fs. e ∷ fs) rest.3,
        )
    | false ↦ λ p. let rest = parted e es h p in ([], rest.0, rest.1, rest.2)
  ] refl

-- in a map
pub stand_together : (above : Name) (keys : KeyMap) → StandTogether above keys
stand_together above keys =
    let parts = together above (map.entries keys) (map.entries_sorted keys) in
    record {
      before = parts.0;
      behind = parts.1;
      all = parts.2 ∙ ap (λ es. parts.0 ++ (es ++ parts.1)) (sym (entries-retain name_cmp_total name_cmp-IsAntisymmetric keys (is_at_or_below above)));
      others = entries-retain name_cmp_total name_cmp-IsAntisymmetric keys (λ name. not (is_at_or_below above name)) ∙ parts.3;
    }
