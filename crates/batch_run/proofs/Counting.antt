-- Commits of different handles are different: so many handles made no more than there are.
use Rattle.std.proofs.Common.{◌≡◌, ℕ, zero, suc, ◌+◌, ◌<◌, ◌≤◌, Bool, true, false, cond, nat_eq, List, [], ◌∷◌, ◌++◌, length, refl, ap, subst, ◌∙◌, arith, eq-eqb, eqb-true, ne_eqb}
use mathlib.Core.List.{IsPrefix}
use Rattle.kdb_handle.specs.declared.replies.Reply.{Reply}
use Rattle.model_batch.specs.Fair.{commits_told, count_told}
use Rattle.model_batch.specs.Told.{numbers_by, numbers_from}
use Rattle.model_history.specs.History.{Commit}

-- how many commits are a handle's doesn't go by where one begins to count
count-from : (number from other : ℕ) (log : List Commit)
    → length (numbers_from number from log) ≡ length (numbers_from number other log)
count-from number from other [] = refl
count-from number from other (commit ∷ log) =
    let rest = count-from number (from + 1) (other + 1) log in
    elim (nat_eq commit.handle number) as (λ b. length (cond b (from ∷ numbers_from number (from + 1) log) (numbers_from number (from + 1) log))
    ≡ length (cond b (other ∷ numbers_from number (other + 1) log) (numbers_from number (other + 1) log))) [ true ↦ ap suc rest | false ↦ rest ]

-- who sees more of a history sees no fewer of a handle's commits
count-longer : (number from : ℕ) (log more : List Commit)
    → length (numbers_from number from log) ≤ length (numbers_from number from (log ++ more))
count-longer number from [] more = omega arith
count-longer number from (commit ∷ log) more =
    let rest = count-longer number (from + 1) log more in
    elim (nat_eq commit.handle number) as (λ b. length (cond b (from ∷ numbers_from number (from + 1) log) (numbers_from number (from + 1) log))
    ≤ length (cond b (from ∷ numbers_from number (from + 1) (log ++ more)) (numbers_from number (from + 1) (log ++ more)))) [ true ↦ omega arith | false ↦ rest ]

pub count-prefix : (number : ℕ) (log longer : List Commit) → IsPrefix log longer
    → length (numbers_by number log) ≤ length (numbers_by number longer)
count-prefix number log longer p =
    subst (λ (l : List Commit). length (numbers_by number log) ≤ length (numbers_by number l)) p.1 (count-longer number 1 log p.0)

-- how many commits the first so many handles made
abbrev count_each : ℕ → List Commit → ℕ
count_each zero log = 0
count_each (suc i) log = count_each i log + length (numbers_by (i + 1) log)

-- one commit more is of its own handle alone
count_other : (number : ℕ) (commit : Commit) (log : List Commit) → (commit.handle ≡ number → ⊥)
    → length (numbers_by number (commit ∷ log)) ≡ length (numbers_by number log)
count_other number commit log other =
    ap (λ b. length (cond b (1 ∷ numbers_from number 2 log) (numbers_from number 2 log))) (ne_eqb commit.handle number other)
    ∙ count-from number 2 1 log

count_same : (number : ℕ) (commit : Commit) (log : List Commit)
    → length (numbers_by number (commit ∷ log)) ≤ suc (length (numbers_by number log))
count_same number commit log =
    let rest = count-from number 2 1 log in
    elim (nat_eq commit.handle number) as (λ b. length (cond b (1 ∷ numbers_from number 2 log) (numbers_from number 2 log)) ≤ suc (length (numbers_by number log))) [ true ↦ omega arith | false ↦ omega arith ]

count_below : (n : ℕ) (commit : Commit) (log : List Commit) → n < commit.handle
    → count_each n (commit ∷ log) ≡ count_each n log
count_below zero commit log lt = refl
count_below (suc n) commit log lt =
    let rest = count_below n commit log (omega arith) in
    let one = count_other (n + 1) commit log (λ same. omega arith) in
    omega arith

count_more : (n : ℕ) (commit : Commit) (log : List Commit) → count_each n (commit ∷ log) ≤ suc (count_each n log)
count_more zero commit log = omega arith
count_more (suc n) commit log =
    let rest = count_more n commit log in
    let same = count_same (n + 1) commit log in
    let by : (b : Bool) → nat_eq commit.handle (n + 1) ≡ b → count_each (suc n) (commit ∷ log) ≤ suc (count_each (suc n) log) = λ b. elim b as (λ (v : Bool). nat_eq commit.handle (n + 1) ≡ v → count_each (suc n) (commit ∷ log) ≤ suc (count_each (suc n) log)) [
      | true ↦ λ is. let at = eqb-true commit.handle (n + 1) is in let below = count_below n commit log (omega arith) in omega arith
      | false ↦ λ is. let other = count_other (n + 1) commit log (λ at. not_both (eq-eqb commit.handle (n + 1) at) is) in omega arith
    ] in
    by (nat_eq commit.handle (n + 1)) refl
  where
    not_both : nat_eq commit.handle (n + 1) ≡ true → nat_eq commit.handle (n + 1) ≡ false → ⊥
    not_both at is = absurd cc

count_all : (n : ℕ) (log : List Commit) → count_each n log ≤ length log
count_all n [] = none n
  where
    none : (n : ℕ) → count_each n [] ≤ 0
    none zero = omega arith
    none (suc n) = let rest = none n in omega arith
count_all n (commit ∷ log) = let rest = count_all n log in let more = count_more n commit log in omega arith

count_told_each : (n : ℕ) (rows : List (List (List Reply))) (log : List Commit)
    → ((i : ℕ) → i < n → length (commits_told i rows) ≤ length (numbers_by (i + 1) log))
    → count_told n rows ≤ count_each n log
count_told_each zero rows log each = omega arith
count_told_each (suc n) rows log each =
    let rest = count_told_each n rows log (λ i lt. each i (omega arith)) in
    let last = each n (omega arith) in
    omega arith

-- so what a handle has seen covers all that is told, if of each handle it has as many commits as that one's replies
-- tell
pub covered : (n : ℕ) (rows : List (List (List Reply))) (log : List Commit)
    → ((i : ℕ) → i < n → length (commits_told i rows) ≤ length (numbers_by (i + 1) log))
    → count_told n rows ≤ length log
covered n rows log each = let told = count_told_each n rows log each in let all = count_all n log in omega arith
