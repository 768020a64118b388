-- What a comparison tells.
use Rattle.std.proofs.Common.{◌≡◌, true, false, T, refl, sym, ap, subst, ◌∙◌}
use Rattle.std.specs.Cmp.{IsTotalOrder, tied_itself}
use Rattle.std.specs.Ordering.{eq_by_cmp, is_eq, is_lt, ordering_reverse}
use Rattle.std.specs.declared.cmp.Ordering.{Ordering}
use Rattle.std.specs.declared.cmp.Ordering.TheVariants.{Less, Equal, Greater}

pub less : (r : Ordering) → T (is_lt r) → r ≡ Less
less Less h = refl
less Equal h = absurd h
less Greater h = absurd h

pub is_less : (r : Ordering) → r ≡ Less → T (is_lt r)
is_less r e = subst (λ s. T (is_lt s)) (sym e) tt

pub not_tied : (r : Ordering) → T (is_lt r) → is_eq r ≡ false
not_tied Less h = refl
not_tied Equal h = absurd h
not_tied Greater h = absurd h

pub tied : (r : Ordering) → is_eq r ≡ true → r ≡ Equal
tied Less h = absurd cc
tied Equal h = refl
tied Greater h = absurd cc

module _ {K : Type 0} {R : K → K → Ordering} (total : IsTotalOrder R) where
  -- a key ties with itself
  pub itself : (k : K) → eq_by_cmp R k k ≡ true
  itself k = ap is_eq (tied_itself total k)

  -- a comparison the other way round
  pub turned : (x y : K) (r : Ordering) → R x y ≡ r → R y x ≡ ordering_reverse r
  turned x y r e = total.antisymm y x ∙ ap ordering_reverse e
