-- How often a search compares.
use Rattle.std.proofs.Common.{pow-add, ◌≡◌, ℕ, zero, suc, ◌+◌, ◌*◌, ◌^◌, ◌-◌, ◌<◌, ◌≤◌, T, List, [], ◌∷◌, length, get_or, ap, ◌∙◌, inl, inr, arith}
use Rattle.std.proofs.Math.Nat.{mul_assoc, pow-suc, pow-le-pow_right, mul-le-mul, mul-le-mul_left, mul-le-mul_right, le-mul_of_pos_right}
use Rattle.std.proofs.lemmas.Bool.{cases_lt}
use Rattle.std.proofs.lemmas.List.{length-append}
use Rattle.std.specs.Cmp.{IsTotalOrder}
use Rattle.std.specs.FinMap.{is_sorted}
use Rattle.std.specs.FinMap.Entries.{below_all}
use Rattle.std.specs.List.{AllByRecursion}
use Rattle.std.specs.declared.cmp.Ordering.{Ordering}
use Rattle.std.specs.declared.cmp.Ordering.TheVariants.{Less, Greater}
use Rattle.general_words.proofs.Entries.{below_at}
use Rattle.general_words.proofs.Orders.{turned}
use Rattle.general_words.proofs.Tests.{first, second}
use Rattle.chunked_map.specs.Chunks.{joined, IsSized}

-- before the first comparison
pub none_yet : (s n : ℕ) → 2 ^ (s - s) * (n - 0) ≤ n
none_yet s n =
    let none : s - s ≡ 0 = omega arith in
    let one = ap (λ k. 2 ^ k * (n - 0)) none in
    omega (arith, one)

pub no_cost : (s n : ℕ) → 2 ^ (s - s) ≤ 2 * n + 1
no_cost s n =
    let none : s - s ≡ 0 = omega arith in
    let one = ap (λ k. 2 ^ k) none in
    omega (arith, one)

-- a comparison after which half of what was left is left, or less
pub halved : (d e n size less : ℕ) → e ≤ suc d → 2 ^ d * size ≤ n → 2 * less ≤ size → 2 ^ e * less ≤ n
halved d e n size less le so_far half =
    let more = mul-le-mul_right less (pow-le-pow_right {n = 2} (omega arith) le) in
    let twice : 2 ^ suc d * less ≡ 2 ^ d * (2 * less) = ap (λ k. k * less) (pow-suc 2 d) ∙ mul_assoc (2 ^ d) 2 less in
    let within = mul-le-mul_left (2 ^ d) half in
    omega (arith, more, twice, within, so_far)

-- one more comparison, while something is left
pub one_more_step : (d e n size : ℕ) → e ≤ suc d → 0 < size → 2 ^ d * size ≤ n → 2 ^ e ≤ 2 * n + 1
one_more_step d e n size le some so_far =
    let more = pow-le-pow_right {n = 2} (omega arith) le in
    let twice = pow-suc 2 d in
    let within = le-mul_of_pos_right (2 ^ d) some in
    omega (arith, more, twice, within, so_far)

-- in a chunk whose last key is known to be larger it takes six comparisons at most
pub in_one_chunk : (b len : ℕ) → 2 ^ b ≤ 2 * (len - 1) + 1 → 0 < len → len ≤ 64 → 2 ^ b ≤ 64
in_one_chunk b len cost some few = elim (cases_lt b 7) [
  | inl lt ↦ let le : b ≤ 6 = omega arith in pow-le-pow_right {n = 2} (omega arith) le
  | inr ge ↦ let more = pow-le-pow_right {n = 2} (omega arith) ge in absurd (omega (arith, more, cost, some, few))
]

-- the search among the chunks and the one in a chunk
pub both_searches : (a b c m len : ℕ) → c ≡ a + b → 2 ^ a ≤ 2 * (m - 1) + 1 → 2 ^ b ≤ 2 * (len - 1) + 1 → 0 < len
    → len ≤ 64 → 2 ^ c ≤ 64 * (2 * (m - 1) + 1)
both_searches a b c m len sum among inside some few =
    let parts : 2 ^ c ≡ 2 ^ a * 2 ^ b = ap (λ k. 2 ^ k) sum ∙ pow-add 2 a b in
    let product = mul-le-mul among (in_one_chunk b len inside some few) in
    omega (arith, parts, product)

-- and where the key is the last of a chunk, there is no second one
pub first_search : (a m : ℕ) → 2 ^ a ≤ 2 * (m - 1) + 1 → 2 ^ a ≤ 64 * (2 * (m - 1) + 1)
first_search a m among = omega (arith, among)

-- the last key is looked at before
pub looked_before : (a c m n : ℕ) → c ≤ suc a → 2 ^ a ≤ 64 * (2 * (m - 1) + 1) → 0 < m → m ≤ n
    → 2 ^ c ≤ 128 * (2 * n + 1)
looked_before a c m n le cost some chunks =
    let more = pow-le-pow_right {n = 2} (omega arith) le in
    let twice = pow-suc 2 a in
    omega (arith, more, twice, cost, some, chunks)

-- there are no more chunks than entries
pub no_more_chunks : {A : Type 0} (cs : List (List A)) → AllByRecursion IsSized cs → length cs ≤ length (joined cs)
no_more_chunks [] h = omega arith
no_more_chunks (c ∷ cs) h =
    let more = no_more_chunks cs h.1 in
    let some = h.0.some in
    let len = length-append c (joined cs) in
    omega (arith, more, some, len)

module _ {K X : Type 0} (R : K → K → Ordering) (o : IsTotalOrder R) (q : K) where
  -- keys before one that is before q
  pub less_up_to : (es : List (K × X)) (m k : ℕ) (d e : K × X) → T (is_sorted R es) → m < length es → k ≤ m
      → R (get_or es m d).0 q ≡ Less → R (get_or es k e).0 q ≡ Less
  less_up_to [] m k d e h lt le is = absurd (omega arith)
  less_up_to (f ∷ es) zero zero d e h lt le is = is
  less_up_to (f ∷ es) zero (suc k) d e h lt le is = absurd (omega arith)
  less_up_to (f ∷ es) (suc m) zero d e h lt le is =
      o.trans f.0 (get_or es m d).0 q (below_at R f.0 es (first _ _ h) m d (omega arith)) is
  less_up_to (f ∷ es) (suc m) (suc k) d e h lt le is =
      less_up_to es m k d e (second _ _ h) (omega arith) (omega arith) is

  behind_first : (f : K × X) (es : List (K × X)) (k : ℕ) (e : K × X) → T (below_all R f.0 es) → k < length es
      → R f.0 q ≡ Greater → R (get_or es k e).0 q ≡ Greater
  behind_first f es k e h lt is =
      turned o q (get_or es k e).0 Less (o.trans q f.0 (get_or es k e).0 (turned o f.0 q Greater is) (below_at R f.0 es h k e lt))

  -- keys behind one that is behind q
  pub greater_from : (es : List (K × X)) (m k : ℕ) (d e : K × X) → T (is_sorted R es) → k < length es → m ≤ k
      → R (get_or es m d).0 q ≡ Greater → R (get_or es k e).0 q ≡ Greater
  greater_from [] m k d e h lt le is = absurd (omega arith)
  greater_from (f ∷ es) zero zero d e h lt le is = is
  greater_from (f ∷ es) zero (suc k) d e h lt le is = behind_first f es k e (first _ _ h) (omega arith) is
  greater_from (f ∷ es) (suc m) zero d e h lt le is = absurd (omega arith)
  greater_from (f ∷ es) (suc m) (suc k) d e h lt le is =
      greater_from es m k d e (second _ _ h) (omega arith) (omega arith) is
