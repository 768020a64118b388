-- Tests: two that are joined by `&&`, what holds where one does, and branches on them.
use Rattle.std.proofs.Common.{◌≡◌, ℕ, Bool, true, false, T, not, ◌&&◌, cond, nat_eq, Option, Some, None, refl, sym, ap, subst, eqb-true, eq-eqb}
use Rattle.std.specs.Option.{option_eq}

-- of two tests that hold together, the first
pub first : (a b : Bool) → T (a && b) → T a
first true b h = tt
first false b h = absurd h

-- and the second
pub second : (a b : Bool) → T (a && b) → T b
second true b h = h
second false b h = absurd h

pub both : (a b : Bool) → T a → T b → T (a && b)
both true b g h = h
both false b g h = absurd g

pub true_of : (b : Bool) → T b → b ≡ true
true_of true h = refl
true_of false h = absurd h

pub true_is : (b : Bool) → b ≡ true → T b
true_is b e = subst T (sym e) tt

-- what implies a contradiction is false
pub not_true : (b : Bool) → (T b → ⊥) → b ≡ false
not_true true h = absurd (h tt)
not_true false h = refl

-- what isn't so, where the test of that passed
pub not_is : (b : Bool) → not b ≡ true → b ≡ false
not_is true e = absurd cc
not_is false e = refl

-- a number that passes the test of another is that one
pub is_number : (o : Option ℕ) (i : ℕ) → option_eq nat_eq o (Some i) ≡ true → o ≡ Some i
is_number None i e = absurd cc
is_number (Some n) i e = ap Some (eqb-true n i e)

pub number_itself : (o : Option ℕ) → option_eq nat_eq o o ≡ true
number_itself None = refl
number_itself (Some n) = eq-eqb n n refl

-- a test that is repeated: the inner branch is never reached
pub shadowed : {A : Type 0} (b : Bool) (x y z : A) → cond b x (cond b y z) ≡ cond b x z
shadowed true x y z = refl
shadowed false x y z = refl

-- an answer that only one branch has
pub cond_some : {A : Type 0} (t : Bool) (o : Option A) (y : A) → cond t o None ≡ Some y → (t ≡ true) × (o ≡ Some y)
cond_some true o y h = (refl, h)
cond_some false o y h = absurd cc

-- it was not given
pub cond_off : {A : Type 0} (t : Bool) (x : A) → cond t (Some x) None ≡ None → t ≡ false
cond_off true x h = absurd cc
cond_off false x h = refl

-- there is none to give
pub cond_nothing : {A : Type 0} (t : Bool) (o : Option A) → o ≡ None → cond t o None ≡ None
cond_nothing true o none = none
cond_nothing false o none = refl
