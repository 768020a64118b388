-- Numbers that rise.
use Rattle.std.proofs.Common.{◌≡◌, ℕ, zero, suc, ◌+◌, ◌<◌, ◌≤◌, Bool, true, false, cond, nat_eq, List, [], ◌∷◌, length, get_or, filter, refl, sym, ap, subst, ◌∙◌, arith, eq-eqb, eqb-true}
use Rattle.std.specs.List.{range_with_len}
use Rattle.batch_script.specs.Rising.{IsRising}

-- each is at least what they begin with
pub rising_at : (least : ℕ) (ns : List ℕ) (i d : ℕ) → IsRising least ns → i < length ns → least ≤ get_or ns i d
rising_at least [] i d rises lt = absurd (omega arith)
rising_at least (n ∷ ns) zero d rises lt = rises.0
rising_at least (n ∷ ns) (suc i) d rises lt =
    let rest = rising_at (n + 1) ns i d rises.1 (omega arith) in let first = rises.0 in omega arith

-- a later one is more
pub rising_apart : (least : ℕ) (ns : List ℕ) (i j d : ℕ) → IsRising least ns → i < j → j < length ns
    → get_or ns i d < get_or ns j d
rising_apart least [] i j d rises lt within = absurd (omega arith)
rising_apart least (n ∷ ns) i zero d rises lt within = absurd (omega arith)
rising_apart least (n ∷ ns) zero (suc j) d rises lt within =
    let rest = rising_at (n + 1) ns j d rises.1 (omega arith) in omega arith
rising_apart least (n ∷ ns) (suc i) (suc j) d rises lt within =
    rising_apart (n + 1) ns i j d rises.1 (omega arith) (omega arith)

rising_lower : (least less : ℕ) (ns : List ℕ) → less ≤ least → IsRising least ns → IsRising less ns
rising_lower least less [] le rises = tt
rising_lower least less (n ∷ ns) le rises = (let first = rises.0 in omega arith, rises.1)

-- those of a range that pass a test
pub rising-filter : (test : ℕ → Bool) (a k : ℕ) → IsRising a (filter test (range_with_len a k))
rising-filter test a zero = tt
rising-filter test a (suc k) =
    let rest = rising-filter test (a + 1) k in
    elim (test a) as (λ b. IsRising a (cond b (a ∷ filter test (range_with_len (a + 1) k)) (filter test (range_with_len (a + 1) k)))) [ true ↦ (omega arith, rest) | false ↦ rising_lower (a + 1) a _ (omega arith) rest ]

-- one of a range that passes a test is among them
pub record IsAt (ns : List ℕ) (n : ℕ) : Type 0 where
  pub place : ℕ
  pub within : place < length ns
  pub there : (d : ℕ) → get_or ns place d ≡ n

behind : (n first : ℕ) (ns : List ℕ) → IsAt ns n → IsAt (first ∷ ns) n
behind n first ns at = record { place = suc at.place; within = (let lt = at.within in omega arith); there = at.there }

found : (test : ℕ → Bool) (a n : ℕ) (ns : List ℕ) → a ≤ n → test n ≡ true → (a + 1 ≤ n → IsAt ns n)
    → IsAt (cond (test a) (a ∷ ns) ns) n
found test a n ns le passes rest = by (nat_eq a n) refl
  where
    not_both : nat_eq a n ≡ true → nat_eq a n ≡ false → ⊥
    not_both t f = absurd cc

    further : (a ≡ n → ⊥) → IsAt (cond (test a) (a ∷ ns) ns) n
    further apart =
        let at = rest (omega (arith, apart)) in
        elim (test a) as (λ b. IsAt (cond b (a ∷ ns) ns) n) [ true ↦ behind n a ns at | false ↦ at ]

    by : (b : Bool) → nat_eq a n ≡ b → IsAt (cond (test a) (a ∷ ns) ns) n
    by true is =
        let same = eqb-true a n is in
        subst (λ (b : Bool). IsAt (cond b (a ∷ ns) ns) n) (sym (ap test same ∙ passes)) (record { place = 0; within = omega arith; there = λ d. same })
    by false is = further (λ same. not_both (eq-eqb a n same) is)

pub at-filter : (test : ℕ → Bool) (a k n : ℕ) → a ≤ n → n < a + k → test n ≡ true
    → IsAt (filter test (range_with_len a k)) n
at-filter test a zero n le lt passes = absurd (omega arith)
at-filter test a (suc k) n le lt passes =
    found test a n (filter test (range_with_len (a + 1) k)) le passes (λ le'. at-filter test (a + 1) k n le' (omega arith) passes)
