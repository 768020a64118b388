-- Numbers in lists: what holds of each, and what a search among them tells.
use Rattle.std.proofs.Common.{◌≡◌, ℕ, ◌+◌, ◌<◌, zero, suc, Bool, true, false, cond, ◌&&◌, ◌||◌, nat_eq, List, [], ◌∷◌, filter, Option, Some, None, refl, sym, ap, subst, ◌∙◌, arith, eqb-true, eq-eqb, lt-ltb, ◌==◌}
use Rattle.std.specs.List.{AllByRecursion, list_all, range_with_len}
use Rattle.std.specs.List.Sorted.{IsStrictlySortedBy}
use Rattle.std.specs.Option.{option_eq, option_or}
use Rattle.std.specs.Ordering.{nat_cmp}
use Rattle.std.specs.declared.cmp.Ordering.TheVariants.{Less, Equal, Greater}
use Rattle.std.proofs.lemmas.Bool.{and_parts, and_right, or_right}
use Rattle.general_words.specs.Searches.{first_some}
use Rattle.general_words.proofs.Searches.{none_before, none_behind}
use Rattle.model_history.specs.History.{is_among}
use Rattle.model_store.specs.Records.{Record}
use Rattle.model_store.specs.Sets.{only}

pub same_numbers : (o p : Option ℕ) → option_eq nat_eq o p ≡ true → o ≡ p
same_numbers None None e = refl
same_numbers None (Some m) e = absurd cc
same_numbers (Some n) None e = absurd cc
same_numbers (Some n) (Some m) e = ap Some (eqb-true n m e)

pub itself_number : (n : ℕ) → nat_eq n n ≡ true
itself_number n = eq-eqb n n refl

-- the first is among its list, and what is among the rest is
pub among-first : (m : ℕ) (ms : List ℕ) → is_among (m ∷ ms) m ≡ true
among-first m ms = ap (λ b. b || is_among ms m) (itself_number m)

pub among-rest : (n m : ℕ) (ms : List ℕ) → is_among ms m ≡ true → is_among (n ∷ ms) m ≡ true
among-rest n m ms e = or_right (nat_eq m n) (is_among ms m) e

pub all_among : (P : ℕ → Type 0) (ms : List ℕ) → ((m : ℕ) → is_among ms m ≡ true → P m) → AllByRecursion P ms
all_among P [] h = tt
all_among P (m ∷ ms) h = (h m (among-first m ms), all_among P ms (λ n among. h n (among-rest m n ms among)))

pub from_all : (P : ℕ → Type 0) (ms : List ℕ) (m : ℕ) → AllByRecursion P ms → is_among ms m ≡ true → P m
from_all P [] m all among = absurd cc
from_all P (n ∷ ms) m all among = elim (nat_eq m n) as (λ b. nat_eq m n ≡ b → (b || is_among ms m) ≡ true → P m) [
  | true ↦ λ is e. subst P (sym (eqb-true m n is)) all.0
  | false ↦ λ is e. from_all P ms m all.1 e
] refl among

pub from_list_all : (p : ℕ → Bool) (ms : List ℕ) (m : ℕ) → list_all p ms ≡ true → is_among ms m ≡ true → p m ≡ true
from_list_all p [] m all among = absurd cc
from_list_all p (n ∷ ms) m all among = elim (nat_eq m n) as (λ b. nat_eq m n ≡ b → (b || is_among ms m) ≡ true → p m ≡ true) [
  | true ↦ λ is e. ap p (eqb-true m n is) ∙ (and_parts (p n) (list_all p ms) all).0
  | false ↦ λ is e. from_list_all p ms m (and_parts (p n) (list_all p ms) all).1 e
] refl among

-- where a search tells nothing, it tells nothing of each
pub nothing_at : {B : Type 0} (f : ℕ → Option B) (ms : List ℕ) (m : ℕ) → first_some f ms ≡ None → is_among ms m ≡ true
    → f m ≡ None
nothing_at f [] m none among = absurd cc
nothing_at f (n ∷ ms) m none among = elim (nat_eq m n) as (λ b. nat_eq m n ≡ b → (b || is_among ms m) ≡ true → f m ≡ None) [
  | true ↦ λ is e. ap f (eqb-true m n is) ∙ none_before (f n) (first_some f ms) none
  | false ↦ λ is e. nothing_at f ms m (none_behind (f n) (first_some f ms) none) e
] refl among

-- and where nothing is told of each, a search tells nothing
pub nothing_of : {B : Type 0} (f : ℕ → Option B) (ms : List ℕ) → ((m : ℕ) → is_among ms m ≡ true → f m ≡ None)
    → first_some f ms ≡ None
nothing_of f [] each = refl
nothing_of f (m ∷ ms) each =
    ap (λ o. option_or o (first_some f ms)) (each m (among-first m ms))
    ∙ nothing_of f ms (λ n among. each n (among-rest m n ms among))

-- what is among those that pass is among all, and passes
pub among-filter : (p : ℕ → Bool) (ms : List ℕ) (m : ℕ) → is_among (filter p ms) m ≡ true
    → (is_among ms m ≡ true) × (p m ≡ true)
among-filter p [] m e = absurd cc
among-filter p (n ∷ ms) m e = elim (p n) as (λ b. p n ≡ b → is_among (cond b (n ∷ filter p ms) (filter p ms)) m ≡ true → (is_among (n ∷ ms) m ≡ true) × (p m ≡ true)) [
  | true ↦ λ passes h. elim (nat_eq m n) as (λ b. nat_eq m n ≡ b → (b || is_among (filter p ms) m) ≡ true → (is_among (n ∷ ms) m ≡ true) × (p m ≡ true)) [
    | true ↦ λ is k. (ap (λ b. b || is_among ms m) is, ap p (eqb-true m n is) ∙ passes)
    | false ↦ λ is k. let rest = among-filter p ms m k in (among-rest n m ms rest.0, rest.1)
  ] refl h
  | false ↦ λ passes h. let rest = among-filter p ms m h in (among-rest n m ms rest.0, rest.1)
] refl e

pub is_among-filter : (p : ℕ → Bool) (ms : List ℕ) (m : ℕ) → is_among (filter p ms) m ≡ (is_among ms m && p m)
is_among-filter p [] m = refl
is_among-filter p (n ∷ ms) m = by (p n) refl (nat_eq m n) refl (is_among-filter p ms m)
  where
    by : (b : Bool) → p n ≡ b → (e : Bool) → nat_eq m n ≡ e → is_among (filter p ms) m ≡ (is_among ms m && p m)
        → is_among (cond b (n ∷ filter p ms) (filter p ms)) m ≡ ((e || is_among ms m) && p m)
    by true passes true is rest = ap (λ t. t || is_among (filter p ms) m) is ∙ sym (ap p (eqb-true m n is) ∙ passes)
    by true passes false is rest = ap (λ t. t || is_among (filter p ms) m) is ∙ rest
    by false fails true is rest =
        rest ∙ and_right (is_among ms m) (p m) (ap p (eqb-true m n is) ∙ fails) ∙ sym (ap p (eqb-true m n is) ∙ fails)
    by false fails false is rest = rest

-- two records that agree on some mounts, and of which as many commits were made, are the same of these alone
pub only-alike : (ms : List ℕ) (rec other : Record) → ((m : ℕ) → is_among ms m ≡ true → rec.fetched m ≡ other.fetched m)
    → rec.committed ≡ other.committed → only ms rec ≡ only ms other
only-alike ms rec other alike count = λ i. record { fetched = λ m. at m i; committed = count i }
  where
    at : (m : ℕ) → (only ms rec).fetched m ≡ (only ms other).fetched m
    at m = elim (is_among ms m) as (λ b. is_among ms m ≡ b → cond b (rec.fetched m) None ≡ cond b (other.fetched m) None) [
      | true ↦ λ is. alike m is
      | false ↦ λ is. refl
    ] refl

pub only-there : (ms : List ℕ) (rec : Record) (m : ℕ) → is_among ms m ≡ true → (only ms rec).fetched m ≡ rec.fetched m
only-there ms rec m is = ap (λ b. cond b (rec.fetched m) None) is

-- numbers from a start on ascend
less-than : (a b : ℕ) → a < b → nat_cmp a b ≡ Less
less-than a b lt = ap (λ t. cond t Less (cond (a == b) Equal Greater)) (lt-ltb a b lt)

range-above : (a b n : ℕ) → a < b → AllByRecursion (λ m. nat_cmp a m ≡ Less) (range_with_len b n)
range-above a b zero lt = tt
range-above a b (suc n) lt = (less-than a b lt, range-above a (b + 1) n (omega arith))

pub range-ascends : (a n : ℕ) → IsStrictlySortedBy nat_cmp (range_with_len a n)
unfolding IsStrictlySortedBy
range-ascends a zero = tt
range-ascends a (suc n) = (range-above a (a + 1) n (omega arith), range-ascends (a + 1) n)
