-- What the first commit behind a front that touches a mount is, and what a history that goes on makes of a map.
use Rattle.std.proofs.Common.{◌≡◌, ℕ, zero, suc, ◌+◌, ◌-◌, nat_lt, ◌<◌, ◌≤◌, Bool, true, false, cond, List, [], ◌∷◌, ◌++◌, length, drop, slice_get, Some, None, refl, sym, ap, ◌∙◌, arith}
use Rattle.std.specs.List.{position_from}
use Rattle.std.proofs.lemmas.Bool.{ltb-true, ltb-false}
use Rattle.std.proofs.lemmas.List.{drop_all}
use Rattle.general_words.proofs.Lists.{some_is}
use Rattle.model_names.specs.Name.{Name}
use Rattle.model_maps.specs.KeyMap.{KeyMap}
use Rattle.model_history.specs.Changes.{changed_by}
use Rattle.model_history.specs.History.{Commit, replay, touches, first_after, changes_beside, first_change_after}

-- ---- positions

module _ {A : Type 0} (test : A → Bool) where
  -- the place that is found is at the start or behind it,
  pub position-from : (i : ℕ) (xs : List A) (at : ℕ) → position_from test i xs ≡ Some at → i ≤ at
  position-from i [] at e = absurd cc
  position-from i (x ∷ xs) at e = elim (test x) as (λ b. cond b (Some i) (position_from test (i + 1) xs) ≡ Some at → i ≤ at) [
    | true ↦ λ h. omega (arith, some_is i at h)
    | false ↦ λ h. omega (arith, position-from (i + 1) xs at h)
  ] e

  -- before the end,
  pub position-within : (i : ℕ) (xs : List A) (at : ℕ) → position_from test i xs ≡ Some at → at < i + length xs
  position-within i [] at e = absurd cc
  position-within i (x ∷ xs) at e = elim (test x) as (λ b. cond b (Some i) (position_from test (i + 1) xs) ≡ Some at → at < i + length (x ∷ xs)) [
    | true ↦ λ h. omega (arith, some_is i at h)
    | false ↦ λ h. omega (arith, position-within (i + 1) xs at h)
  ] e

  -- its element passes,
  pub position-passes : (i : ℕ) (xs : List A) (at n : ℕ) (x : A) → position_from test i xs ≡ Some at → at ≡ i + n
      → slice_get xs n ≡ Some x → test x ≡ true
  position-passes i [] at n x e is there = absurd cc
  position-passes i (y ∷ ys) at zero x e is there = elim (test y) as (λ b. test y ≡ b → cond b (Some i) (position_from test (i + 1) ys) ≡ Some at → test x ≡ true) [
    | true ↦ λ passes h. ap test (sym (some_is y x there)) ∙ passes
    | false ↦ λ passes h. absurd (omega (arith, position-from (i + 1) ys at h))
  ] refl e
  position-passes i (y ∷ ys) at (suc n) x e is there = elim (test y) as (λ b. cond b (Some i) (position_from test (i + 1) ys) ≡ Some at → test x ≡ true) [
    | true ↦ λ h. absurd (omega (arith, some_is i at h))
    | false ↦ λ h. position-passes (i + 1) ys at n x h (omega arith) there
  ] e

  -- and none before it does
  pub position-before : (i : ℕ) (xs : List A) (at n : ℕ) (x : A) → position_from test i xs ≡ Some at → i + n < at
      → slice_get xs n ≡ Some x → test x ≡ false
  position-before i [] at n x e lt there = absurd cc
  position-before i (y ∷ ys) at zero x e lt there = elim (test y) as (λ b. test y ≡ b → cond b (Some i) (position_from test (i + 1) ys) ≡ Some at → test x ≡ false) [
    | true ↦ λ is h. absurd (omega (arith, some_is i at h))
    | false ↦ λ is h. ap test (sym (some_is y x there)) ∙ is
  ] refl e
  position-before i (y ∷ ys) at (suc n) x e lt there = elim (test y) as (λ b. cond b (Some i) (position_from test (i + 1) ys) ≡ Some at → test x ≡ false) [
    | true ↦ λ h. absurd (omega (arith, some_is i at h))
    | false ↦ λ h. position-before (i + 1) ys at n x h (omega arith) there
  ] e

  -- where none is found, none passes
  pub position-none : (i : ℕ) (xs : List A) (n : ℕ) (x : A) → position_from test i xs ≡ None → slice_get xs n ≡ Some x
      → test x ≡ false
  position-none i [] n x e there = absurd cc
  position-none i (y ∷ ys) zero x e there = elim (test y) as (λ b. test y ≡ b → cond b (Some i) (position_from test (i + 1) ys) ≡ None → test x ≡ false) [
    | true ↦ λ is h. absurd cc
    | false ↦ λ is h. ap test (sym (some_is y x there)) ∙ is
  ] refl e
  position-none i (y ∷ ys) (suc n) x e there = elim (test y) as (λ b. cond b (Some i) (position_from test (i + 1) ys) ≡ None → test x ≡ false) [
    | true ↦ λ h. absurd cc
    | false ↦ λ h. position-none (i + 1) ys n x h there
  ] e

-- ---- places behind a front

-- what stands behind a front
pub behind : {A : Type 0} (xs : List A) (front n : ℕ) → slice_get (drop front xs) n ≡ slice_get xs (front + n)
behind xs zero n = let same : n ≡ 0 + n = omega arith in ap (λ m. slice_get xs m) same
behind [] (suc front) n = refl
behind (x ∷ xs) (suc front) n =
    let same : suc (front + n) ≡ suc front + n = omega arith in behind xs front n ∙ ap (λ m. slice_get (x ∷ xs) m) same

length-behind : {A : Type 0} (xs : List A) (front : ℕ) → front < length xs → front + length (drop front xs) ≡ length xs
length-behind xs zero lt = omega arith
length-behind [] (suc front) lt = absurd (omega arith)
length-behind (x ∷ xs) (suc front) lt = omega (arith, length-behind xs front (omega arith))

module _ {A : Type 0} (test : A → Bool) (xs : List A) (front : ℕ) where
  at_front : (at : ℕ) → front ≤ at → front + (at - front) ≡ at
  at_front at le = omega arith

  -- numbered from 1, the first behind a front that passes stands behind the front,
  pub found-behind : (number : ℕ) → position_from test (front + 1) (drop front xs) ≡ Some number → front < number
  found-behind number e = omega (arith, position-from test (front + 1) (drop front xs) number e)

  -- in the list,
  pub found-within : (number : ℕ) → position_from test (front + 1) (drop front xs) ≡ Some number → number ≤ length xs
  found-within number e = elim (nat_lt front (length xs)) as (λ b. nat_lt front (length xs) ≡ b → number ≤ length xs) [
    | true ↦ λ lt. omega (arith, position-within test (front + 1) (drop front xs) number e, length-behind xs front (ltb-true _ _ lt))
    | false ↦ λ le. absurd (nowhere (ltb-false _ _ le))
  ] refl
    where
      nowhere : length xs ≤ front → ⊥
      nowhere le =
          let none : position_from test (front + 1) (drop front xs) ≡ None = ap (position_from test (front + 1)) (drop_all front xs le) in absurd cc

  -- it passes,
  pub found-there : (number : ℕ) (x : A) → position_from test (front + 1) (drop front xs) ≡ Some (number + 1)
      → slice_get xs number ≡ Some x → test x ≡ true
  found-there number x e there =
      let le : front ≤ number = omega (arith, found-behind (number + 1) e) in
      position-passes test (front + 1) (drop front xs) (number + 1) (number - front) x e (omega arith) (behind xs front (number - front) ∙ ap (λ m. slice_get xs m) (at_front number le) ∙ there)

  -- none between does,
  pub found-first : (number at : ℕ) (x : A) → position_from test (front + 1) (drop front xs) ≡ Some number → front ≤ at
      → at + 1 < number → slice_get xs at ≡ Some x → test x ≡ false
  found-first number at x e le lt there =
      position-before test (front + 1) (drop front xs) number (at - front) x e (omega arith) (behind xs front (at - front) ∙ ap (λ m. slice_get xs m) (at_front at le) ∙ there)

  -- and where there is none, none behind the front does
  pub found-none : (at : ℕ) (x : A) → position_from test (front + 1) (drop front xs) ≡ None → front ≤ at
      → slice_get xs at ≡ Some x → test x ≡ false
  found-none at x e le there =
      position-none test (front + 1) (drop front xs) (at - front) x e (behind xs front (at - front) ∙ ap (λ m. slice_get xs m) (at_front at le) ∙ there)

module _ (history : List Commit) (mount front : ℕ) where
  pub first_after-behind : (number : ℕ) → first_after history mount front ≡ Some number → front < number
  first_after-behind = found-behind (touches mount) history front

  pub first_after-within : (number : ℕ) → first_after history mount front ≡ Some number → number ≤ length history
  first_after-within = found-within (touches mount) history front

  pub first_after-there : (number : ℕ) (commit : Commit) → first_after history mount front ≡ Some (number + 1)
      → slice_get history number ≡ Some commit → touches mount commit ≡ true
  first_after-there = found-there (touches mount) history front

  pub first_after-first : (number at : ℕ) (commit : Commit) → first_after history mount front ≡ Some number → front ≤ at
      → at + 1 < number → slice_get history at ≡ Some commit → touches mount commit ≡ false
  first_after-first = found-first (touches mount) history front

  pub first_after-none : (at : ℕ) (commit : Commit) → first_after history mount front ≡ None → front ≤ at
      → slice_get history at ≡ Some commit → touches mount commit ≡ false
  first_after-none = found-none (touches mount) history front

module _ (history : List Commit) (name : Name) (front handle : ℕ) where
  pub first_change-behind : (number : ℕ) → first_change_after history name front handle ≡ Some number → front < number
  first_change-behind = found-behind (changes_beside name handle) history front

  pub first_change-within : (number : ℕ) → first_change_after history name front handle ≡ Some number
      → number ≤ length history
  first_change-within = found-within (changes_beside name handle) history front

  pub first_change-there : (number : ℕ) (commit : Commit)
      → first_change_after history name front handle ≡ Some (number + 1) → slice_get history number ≡ Some commit
      → changes_beside name handle commit ≡ true
  first_change-there = found-there (changes_beside name handle) history front

  pub first_change-first : (number at : ℕ) (commit : Commit)
      → first_change_after history name front handle ≡ Some number → front ≤ at → at + 1 < number
      → slice_get history at ≡ Some commit → changes_beside name handle commit ≡ false
  first_change-first = found-first (changes_beside name handle) history front

  pub first_change-none : (at : ℕ) (commit : Commit) → first_change_after history name front handle ≡ None → front ≤ at
      → slice_get history at ≡ Some commit → changes_beside name handle commit ≡ false
  first_change-none = found-none (changes_beside name handle) history front

-- ---- a history that goes on

pub replay-append : (keys : KeyMap) (history later : List Commit)
    → replay keys (history ++ later) ≡ replay (replay keys history) later
replay-append keys [] later = refl
replay-append keys (commit ∷ history) later = replay-append (changed_by commit.changes keys) history later
