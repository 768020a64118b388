-- Entries whose values are seen in another way: what is found among them, and what a change of them changes.
use Rattle.std.proofs.Common.{◌≡◌, Bool, true, false, cond, ◌&&◌, List, [], ◌∷◌, map, Some, Option, refl, sym, ap, ◌∙◌}
use Rattle.std.specs.FinMap.{find, is_sorted}
use Rattle.std.specs.FinMap.Entries.{below_all, put, where_key, by_order}
use Rattle.std.specs.Option.{option_map}
use Rattle.std.specs.Ordering.{eq_by_cmp, is_lt}
use Rattle.std.specs.declared.cmp.Ordering.{Ordering}
use Rattle.std.specs.declared.cmp.Ordering.TheVariants.{Less, Equal, Greater}

pub mapped-cond : {X Y : Type 0} (f : X → Y) (b : Bool) (v : X) (o : Option X)
    → option_map f (cond b (Some v) o) ≡ cond b (Some (f v)) (option_map f o)
mapped-cond f true v o = refl
mapped-cond f false v o = refl

module _ {K X Y : Type 0} (R : K → K → Ordering) (f : X → Y) where
  abbrev pub seen : List (K × X) → List (K × Y)
  seen es = map (λ e. (e.0, f e.1)) es

  below_all-seen : (x : K) (es : List (K × X)) → below_all R x (seen es) ≡ below_all R x es
  below_all-seen x [] = refl
  below_all-seen x (e ∷ es) = ap (λ b. is_lt (R x e.0) && b) (below_all-seen x es)

  pub is_sorted-seen : (es : List (K × X)) → is_sorted R (seen es) ≡ is_sorted R es
  is_sorted-seen [] = refl
  is_sorted-seen (e ∷ es) = λ i. below_all-seen e.0 es i && is_sorted-seen es i

  pub find-seen : (q : K) (es : List (K × X)) → find R q (seen es) ≡ option_map f (find R q es)
  find-seen q [] = refl
  find-seen q (e ∷ es) =
      ap (cond (eq_by_cmp R q e.0) (Some (f e.1))) (find-seen q es)
      ∙ sym (mapped-cond f (eq_by_cmp R q e.0) e.1 (find R q es))

  pub put-seen : (q : K) (v : X) (es : List (K × X)) → put R q (f v) (seen es) ≡ seen (put R q v es)
  put-seen q v [] = refl
  put-seen q v (e ∷ es) =
      ap (λ rest. by_order (R q e.0) ((q, f v) ∷ seen (e ∷ es)) ((e.0, f v) ∷ seen es) ((e.0, f e.1) ∷ rest)) (put-seen q v es)
      ∙ elim (R q e.0) as (λ r. by_order r ((q, f v) ∷ seen (e ∷ es)) ((e.0, f v) ∷ seen es) ((e.0, f e.1) ∷ seen (put R q v es)) ≡ seen (by_order r ((q, v) ∷ e ∷ es) ((e.0, v) ∷ es) (e ∷ put R q v es))) [
        | Less ↦ refl
        | Equal ↦ refl
        | Greater ↦ refl
      ]

  pub where_key-seen : (p : K → Bool) (es : List (K × X)) → where_key R p (seen es) ≡ seen (where_key R p es)
  where_key-seen p [] = refl
  where_key-seen p (e ∷ es) =
      ap (λ rest. cond (p e.0) ((e.0, f e.1) ∷ rest) rest) (where_key-seen p es)
      ∙ elim (p e.0) as (λ b. cond b ((e.0, f e.1) ∷ seen (where_key R p es)) (seen (where_key R p es)) ≡ seen (cond b (e ∷ where_key R p es) (where_key R p es))) [
        | true ↦ refl
        | false ↦ refl
      ]
