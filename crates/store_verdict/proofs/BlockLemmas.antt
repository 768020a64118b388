-- The first commit that changes one of some names is the first of those that change each.
use Rattle.std.proofs.Common.{◌≡◌, ℕ, ◌+◌, ◌≤◌, ◌<◌, Bool, true, false, cond, ◌||◌, ◌&&◌, List, [], ◌∷◌, ◌++◌, drop, Option, Some, None, refl, sym, ap, ◌∙◌, arith}
use Rattle.std.specs.List.{list_any, position_from}
use Rattle.std.proofs.Math.Bool.{or-false}
use Rattle.std.proofs.lemmas.Bool.{le-leb, lt-leb}
use Rattle.std.proofs.lemmas.List.Recursion.{or_push}
use Rattle.model_history.specs.Changes.{Change}
use Rattle.model_history.specs.History.{Commit, changes_beside, first_change_after}
use Rattle.model_history.proofs.HistoryLemmas.{position-from}
use Rattle.model_names.specs.Name.{Name}
use Rattle.set_split.specs.Involved.{owns}
use Rattle.store_verdict.specs.Blocking.{earlier}

-- ---- the first that passes one of two tests

-- the lesser of a number and one that isn't less is the number
first-is : (i : ℕ) (o : Option ℕ) → ((at : ℕ) → o ≡ Some at → i ≤ at) → earlier (Some i) o ≡ Some i
first-is i None low = refl
first-is i (Some n) low = ap (λ b. cond b (Some i) (Some n)) (le-leb i n (low n refl))

last-is : (i : ℕ) (o : Option ℕ) → ((at : ℕ) → o ≡ Some at → i < at) → earlier o (Some i) ≡ Some i
last-is i None low = refl
last-is i (Some n) low = ap (λ b. cond b (Some n) (Some i)) (lt-leb n i (low n refl))

-- the first element that passes one of two tests is the first of those that pass each
pub position-either : {A : Type 0} (p q : A → Bool) (i : ℕ) (xs : List A)
    → position_from (λ x. p x || q x) i xs ≡ earlier (position_from p i xs) (position_from q i xs)
position-either p q i [] = refl
position-either p q i (x ∷ xs) = by (p x) (q x) (position-either p q (i + 1) xs)
  where
    by : (b c : Bool)
        → position_from (λ y. p y || q y) (i + 1) xs ≡ earlier (position_from p (i + 1) xs) (position_from q (i + 1) xs)
        → cond (b || c) (Some i) (position_from (λ y. p y || q y) (i + 1) xs)
        ≡ earlier (cond b (Some i) (position_from p (i + 1) xs)) (cond c (Some i) (position_from q (i + 1) xs))
    by true true rest = sym (first-is i (Some i) (λ at is. let same : i ≡ at = cc in omega (arith, same)))
    by true false rest =
        sym (first-is i (position_from q (i + 1) xs) (λ at is. omega (arith, position-from q (i + 1) xs at is)))
    by false true rest =
        sym (last-is i (position_from p (i + 1) xs) (λ at is. omega (arith, position-from p (i + 1) xs at is)))
    by false false rest = rest

-- where none passes, none is the first
position-nowhere : {A : Type 0} (i : ℕ) (xs : List A) → position_from (λ x. false) i xs ≡ None
position-nowhere i [] = refl
position-nowhere i (x ∷ xs) = position-nowhere (i + 1) xs

-- ---- names that a set changes

module _ (points : List Name) (handle m : ℕ) (history : List Commit) (front : ℕ) where
  -- the first commit of another handle behind a front that makes one of some changes of a mount
  abbrev pub first_among : List Change → Option ℕ
  first_among changes =
      position_from (λ commit. list_any (λ change. owns points m change.0 && changes_beside change.0 handle commit) changes) (front + 1) (drop front history)

  pub among-none : first_among [] ≡ None
  among-none = position-nowhere (front + 1) (drop front history)

  -- with one more change, by what the test says of it
  more : (changes : List Change) (change : Change) (test : Commit → Bool)
      → ((commit : Commit) → (owns points m change.0 && changes_beside change.0 handle commit) ≡ test commit)
      → first_among (changes ++ change ∷ [])
      ≡ position_from (λ commit. list_any (λ c. owns points m c.0 && changes_beside c.0 handle commit) changes || test commit) (front + 1) (drop front history)
  more changes change test same =
      ap (λ (passes : Commit → Bool). position_from passes (front + 1) (drop front history)) (λ i commit. (
      or_push (list_any (λ (c : Change). owns points m c.0 && changes_beside c.0 handle commit)) (λ (c : Change). owns points m c.0 && changes_beside c.0 handle commit) refl (λ c cs. refl) changes change
      ∙ ap (λ b. list_any (λ (c : Change). owns points m c.0 && changes_beside c.0 handle commit) changes || b) (same commit)
      ) i)

  pub among-owned : (changes : List Change) (change : Change) → owns points m change.0 ≡ true
      → first_among (changes ++ change ∷ [])
      ≡ earlier (first_among changes) (first_change_after history change.0 front handle)
  among-owned changes change owned =
      more changes change (λ commit. changes_beside change.0 handle commit) (λ commit. ap (λ b. b && changes_beside change.0 handle commit) owned)
      ∙ position-either (λ commit. list_any (λ (c : Change). owns points m c.0 && changes_beside c.0 handle commit) changes) (λ commit. changes_beside change.0 handle commit) (front + 1) (drop front history)

  pub among-other : (changes : List Change) (change : Change) → owns points m change.0 ≡ false
      → first_among (changes ++ change ∷ []) ≡ first_among changes
  among-other changes change other =
      more changes change (λ commit. false) (λ commit. ap (λ b. b && changes_beside change.0 handle commit) other)
      ∙ ap (λ (passes : Commit → Bool). position_from passes (front + 1) (drop front history)) (λ i commit. or-false (list_any (λ (c : Change). owns points m c.0 && changes_beside c.0 handle commit) changes) i)
