-- What the handles of a store make is all of its story.
use Rattle.std.proofs.Common.{◌≡◌, ◌≢◌, ◌⊎◌, inl, inr, ℕ, zero, suc, ◌+◌, ◌<◌, ◌≤◌, Bool, true, false, cond, nat_eq, List, [], ◌∷◌, refl, sym, ap, ◌∙◌, arith, eq-eqb, eqb-true, ne_eqb}
use Rattle.std.proofs.lemmas.Bool.{cases_lt}
use Rattle.kdb_handle.specs.Story.{Told, Opened, Committed, Failed, Refused, failures_in, maker_of, refusals_in}
use Rattle.kdb_handle.proofs.CoverLemmas.{left-out}
use Rattle.seat_lock.specs.Story.{made_by}
use Rattle.batch_run.proofs.Totals.{total, total-none, total-same}

-- ---- no maker

-- an entry is one of what its maker made
own-entry : (told : Told) (log : List Told) → made_by maker_of (maker_of told) (told ∷ log) ≡ [] → ⊥
own-entry told log none =
    let off = (left-out (nat_eq (maker_of told) (maker_of told)) told (made_by maker_of (maker_of told) log) none).0 in
    let on = eq-eqb (maker_of told) (maker_of told) refl in
    absurd cc

-- where nobody made an entry there is none
pub nobody_made : (log : List Told) → ((number : ℕ) → made_by maker_of number log ≡ []) → log ≡ []
nobody_made [] none = refl
nobody_made (told ∷ log) none = absurd (own-entry told log (none (maker_of told)))

-- ---- what is counted of all makers

-- a handle has one of the numbers from 1 to so many, or none of them
abbrev IsOutside : ℕ → ℕ → Type 0
IsOutside n number = (number ≡ 0) ⊎ (n < number)

inside : (n number : ℕ) → (IsOutside n number → ⊥) → (1 ≤ number) × (number ≤ n)
inside n zero not_out = absurd (not_out (inl refl))
inside n (suc k) not_out = (omega arith, by (cases_lt n (suc k)))
  where
    by : (n < suc k) ⊎ (suc k ≤ n) → suc k ≤ n
    by (inl lt) = absurd (not_out (inr lt))
    by (inr le) = le

module _ (f : List Told → ℕ) (f-none : f [] ≡ 0) (f-cons : (told : Told) (log : List Told) → f (told ∷ log) ≡ f (told ∷ []) + f log) where
  -- what all handles made
  abbrev made : ℕ → List Told → ℕ
  made n log = total (λ i. f (made_by maker_of (i + 1) log)) n

  made-other : (number : ℕ) (told : Told) (log : List Told) → maker_of told ≢ number
      → f (made_by maker_of number (told ∷ log)) ≡ f (made_by maker_of number log)
  made-other number told log other =
      ap (λ b. f (cond b (told ∷ made_by maker_of number log) (made_by maker_of number log))) (ne_eqb (maker_of told) number other)

  made-own : (number : ℕ) (told : Told) (log : List Told) → maker_of told ≡ number
      → f (made_by maker_of number (told ∷ log)) ≡ f (told ∷ []) + f (made_by maker_of number log)
  made-own number told log own =
      ap (λ b. f (cond b (told ∷ made_by maker_of number log) (made_by maker_of number log))) (eq-eqb (maker_of told) number own)
      ∙ f-cons told (made_by maker_of number log)

  made-below : (n : ℕ) (told : Told) (log : List Told) → n < maker_of told → made n (told ∷ log) ≡ made n log
  made-below n told log above =
      total-same (λ i. f (made_by maker_of (i + 1) (told ∷ log))) (λ i. f (made_by maker_of (i + 1) log)) n (λ i lt. made-other (i + 1) told log (λ same. omega arith))

  made-within : (n : ℕ) (told : Told) (log : List Told) → 1 ≤ maker_of told → maker_of told ≤ n
      → made n (told ∷ log) ≡ f (told ∷ []) + made n log
  made-within zero told log some within = absurd (omega arith)
  made-within (suc n) told log some within = by (nat_eq (maker_of told) (n + 1)) refl (made-within n told log some)
    where
      by : (b : Bool) → nat_eq (maker_of told) (n + 1) ≡ b
          → (maker_of told ≤ n → made n (told ∷ log) ≡ f (told ∷ []) + made n log)
          → made (suc n) (told ∷ log) ≡ f (told ∷ []) + made (suc n) log
      by true is before =
          let at = eqb-true (maker_of told) (n + 1) is in
          let below = made-below n told log (omega arith) in
          let own = made-own (n + 1) told log at in
          omega arith
      by false is before =
          let other : maker_of told ≢ n + 1 = λ same. let on = eq-eqb (maker_of told) (n + 1) same in absurd cc in
          let rest = before (omega arith) in
          let last = made-other (n + 1) told log other in
          omega arith

  -- of a story that no others made
  pub made-all : (n : ℕ) (log : List Told) → ((number : ℕ) → IsOutside n number → made_by maker_of number log ≡ [])
      → f log ≡ made n log
  made-all n [] only = f-none ∙ sym (total-none (λ i. f (made_by maker_of (i + 1) [])) n (λ i. f-none))
  made-all n (told ∷ log) only =
      let rest = made-all n log (λ number out. (left-out (nat_eq (maker_of told) number) told (made_by maker_of number log) (only number out)).1) in
      let at = inside n (maker_of told) (λ out. own-entry told log (only (maker_of told) out)) in
      let step = made-within n told log at.0 at.1 in
      let one = f-cons told log in
      omega arith

failures-cons : (told : Told) (log : List Told) → failures_in (told ∷ log) ≡ failures_in (told ∷ []) + failures_in log
failures-cons (Opened opening) log = omega arith
failures-cons (Committed commit) log = omega arith
failures-cons (Failed commit) log = omega arith
failures-cons (Refused handle) log = omega arith

refusals-cons : (told : Told) (log : List Told) → refusals_in (told ∷ log) ≡ refusals_in (told ∷ []) + refusals_in log
refusals-cons (Opened opening) log = omega arith
refusals-cons (Committed commit) log = omega arith
refusals-cons (Failed commit) log = omega arith
refusals-cons (Refused handle) log = omega arith

-- the sets that failed, and the refused patterns, are those of all handles
pub failures-all : (n : ℕ) (log : List Told)
    → ((number : ℕ) → (number ≡ 0) ⊎ (n < number) → made_by maker_of number log ≡ [])
    → failures_in log ≡ total (λ i. failures_in (made_by maker_of (i + 1) log)) n
failures-all = made-all failures_in refl failures-cons

pub refusals-all : (n : ℕ) (log : List Told)
    → ((number : ℕ) → (number ≡ 0) ⊎ (n < number) → made_by maker_of number log ≡ [])
    → refusals_in log ≡ total (λ i. refusals_in (made_by maker_of (i + 1) log)) n
refusals-all = made-all refusals_in refl refusals-cons
