-- The lowest of some names is at most each of them, and one of them.
use Rattle.std.specs.Prelude.{◌≡◌, ◌⊎◌, Option, None, Some, cond}
use Rattle.std.proofs.Common.{refl, sym, subst, ◌∙◌, inl, inr}
use Rattle.std.specs.Ordering.{is_lt}
use Rattle.std.specs.declared.cmp.Ordering.{Ordering}
use Rattle.std.specs.declared.cmp.Ordering.TheVariants.{Less, Equal, Greater}
use Rattle.general_words.proofs.Lists.{some_is}
use Rattle.general_words.proofs.Orders.{turned}
use Rattle.model_names.specs.Name.{Name}
use Rattle.model_names.specs.Order.{name_cmp}
use Rattle.model_names.proofs.OrderLemmas.{name_cmp_total, name_cmp-IsAntisymmetric}
use Rattle.key_merge.specs.Walk.{lower}

abbrev pub IsUpTo : Name → Name → Type 0
IsUpTo name other = (name ≡ other) ⊎ (name_cmp name other ≡ Less)

-- a name is at most another one, where that is there
abbrev pub IsAtMost : Name → Option Name → Type 0
IsAtMost name None = Unit {0}
IsAtMost name (Some other) = IsUpTo name other

up_to-then : (a b c : Name) → IsUpTo a b → IsUpTo b c → IsUpTo a c
up_to-then a b c (inl same) q = subst (λ x. IsUpTo x c) (sym same) q
up_to-then a b c (inr p) (inl same) = inr (subst (λ x. name_cmp a x ≡ Less) same p)
up_to-then a b c (inr p) (inr q) = inr (name_cmp_total.trans a b c p q)

pub record IsLower (a b : Option Name) (name : Name) : Type 0 where
  pub first : IsAtMost name a
  pub second : IsAtMost name b
  pub is : (a ≡ Some name) ⊎ (b ≡ Some name)

by_order : (x y name : Name) (r : Ordering) → name_cmp y x ≡ r → cond (is_lt r) (Some y) (Some x) ≡ Some name
    → IsLower (Some x) (Some y) name
by_order x y name Less e is =
    let same : name ≡ y = sym (some_is y name is) in
    record { first = inr (subst (λ n. name_cmp n x ≡ Less) (sym same) e); second = inl same; is = inr is }
by_order x y name Equal e is =
    let same : name ≡ x = sym (some_is x name is) in
    record { first = inl same; second = inl (same ∙ sym (name_cmp-IsAntisymmetric y x e)); is = inl is }
by_order x y name Greater e is =
    let same : name ≡ x = sym (some_is x name is) in
    record {
      first = inl same;
      second = inr (subst (λ n. name_cmp n y ≡ Less) (sym same) (turned name_cmp_total y x Greater e));
      is = inl is;
    }

pub lower-is : (a b : Option Name) (name : Name) → lower a b ≡ Some name → IsLower a b name
lower-is None None name is = absurd cc
lower-is None (Some y) name is = record { first = tt; second = inl (sym (some_is y name is)); is = inr is }
lower-is (Some x) None name is = record { first = inl (sym (some_is x name is)); second = tt; is = inl is }
lower-is (Some x) (Some y) name is = by_order x y name (name_cmp y x) refl is

pub record IsLowest (a b c : Option Name) (name : Name) : Type 0 where
  pub first : IsAtMost name a
  pub second : IsAtMost name b
  pub third : IsAtMost name c
  pub is : (a ≡ Some name) ⊎ ((b ≡ Some name) ⊎ (c ≡ Some name))

no_lower : (a b : Option Name) → lower a b ≡ None → (a ≡ None) × (b ≡ None)
no_lower None None e = (refl, refl)
no_lower None (Some y) e = absurd cc
no_lower (Some x) None e = absurd cc
no_lower (Some x) (Some y) e = absurd (some_none (name_cmp y x) e)
  where
    some_none : (r : Ordering) → cond (is_lt r) (Some y) (Some x) ≡ None → ⊥
    some_none Less e = absurd cc
    some_none Equal e = absurd cc
    some_none Greater e = absurd cc

nothing_above : (name : Name) (a : Option Name) → a ≡ None → IsAtMost name a
nothing_above name a e = subst (IsAtMost name) (sym e) tt

below_both : (a b : Option Name) (name : Name) → IsAtMost name (lower a b) → (o : Option Name) → lower a b ≡ o
    → IsAtMost name a × IsAtMost name b
below_both a b name at None e = let both = no_lower a b e in (nothing_above name a both.0, nothing_above name b both.1)
below_both a b name at (Some low) e =
    let is = lower-is a b low e in
    let up : IsUpTo name low = subst (IsAtMost name) e at in
    (further a is.first up, further b is.second up)
  where
    further : (o : Option Name) → IsAtMost low o → IsUpTo name low → IsAtMost name o
    further None p up = tt
    further (Some other) p up = up_to-then name low other up p

pub lowest-is : (a b c : Option Name) (name : Name) → lower (lower a b) c ≡ Some name → IsLowest a b c name
lowest-is a b c name is =
    let outer = lower-is (lower a b) c name is in
    let inner = below_both a b name outer.first (lower a b) refl in
    record {
      first = inner.0;
      second = inner.1;
      third = outer.second;
      is = elim outer.is as (λ _. (a ≡ Some name) ⊎ ((b ≡ Some name) ⊎ (c ≡ Some name))) [
        | inl low ↦ elim (lower-is a b name low).is as (λ _. (a ≡ Some name) ⊎ ((b ≡ Some name) ⊎ (c ≡ Some name))) [ inl p ↦ inl p | inr q ↦ inr (inl q) ]
        | inr last ↦ inr (inr last)
      ];
    }

-- where none is left, none of the three has a name
pub none-lowest : (a b c : Option Name) → lower (lower a b) c ≡ None → (a ≡ None) × (b ≡ None) × (c ≡ None)
none-lowest a b c e =
    let outer = no_lower (lower a b) c e in let inner = no_lower a b outer.0 in (inner.0, inner.1, outer.1)
