-- The commits of one handle, and of the others, by their places in a history. Commits are numbered from 1.
use Rattle.std.proofs.Common.{◌≡◌, ℕ, zero, suc, ◌+◌, ◌<◌, ◌≤◌, Bool, true, false, cond, nat_eq, List, [], ◌∷◌, ◌++◌, length, take, slice_get, Some, sym, ap, subst, ◌∙◌, eq-eqb, ne_eqb, arith}
use mathlib.Core.List.{IsPrefix}
use Rattle.general_words.proofs.Lists.{some_is}
use Rattle.kdb_handle.specs.Fronts.{IsAnothers}
use Rattle.model_batch.specs.Told.{count_of_others, numbers_from}
use Rattle.model_history.specs.History.{Commit, is_among}
use Rattle.model_store.proofs.Members.{among-first, among-rest}

-- ---- a list and one that it begins

place-append : {A : Type 0} (xs ys : List A) (k : ℕ) (x : A) → slice_get xs k ≡ Some x → slice_get (xs ++ ys) k ≡ Some x
place-append [] ys k x is = absurd cc
place-append (y ∷ xs) ys zero x is = is
place-append (y ∷ xs) ys (suc k) x is = place-append xs ys k x is

append-place : {A : Type 0} (xs ys : List A) (k : ℕ) (x : A) → slice_get (xs ++ ys) k ≡ Some x → k < length xs
    → slice_get xs k ≡ Some x
append-place [] ys k x is lt = absurd (omega arith)
append-place (y ∷ xs) ys zero x is lt = is
append-place (y ∷ xs) ys (suc k) x is lt = append-place xs ys k x is (omega arith)

pub place-longer : {A : Type 0} (xs ys : List A) (k : ℕ) (x : A) → IsPrefix xs ys → slice_get xs k ≡ Some x
    → slice_get ys k ≡ Some x
place-longer xs ys k x p is = subst (λ (l : List _). slice_get l k ≡ Some x) p.1 (place-append xs p.0 k x is)

pub place-shorter : {A : Type 0} (xs ys : List A) (k : ℕ) (x : A) → IsPrefix xs ys → slice_get ys k ≡ Some x
    → k < length xs → slice_get xs k ≡ Some x
place-shorter xs ys k x p is lt =
    append-place xs p.0 k x (subst (λ (l : List _). slice_get l k ≡ Some x) (sym p.1) is) lt

pub anothers-longer : (number : ℕ) (past history : List Commit) (by : ℕ) → IsPrefix past history
    → IsAnothers number past by → IsAnothers number history by
anothers-longer number past history by p is =
    record {
      place = is.place;
      by_is = is.by_is;
      commit = is.commit;
      there = place-longer past history is.place is.commit p is.there;
      another = is.another;
    }

-- ---- the own ones

pub own-among : (number next : ℕ) (history : List Commit) (place at : ℕ) (commit : Commit)
    → slice_get history place ≡ Some commit → commit.handle ≡ number → at ≡ next + place
    → is_among (numbers_from number next history) at ≡ true
own-among number next [] place at commit there own is = absurd cc
own-among number next (made ∷ history) zero at commit there own is =
    let rest : List ℕ = numbers_from number (next + 1) history in
    let here : at ≡ next = omega (arith, is) in
    let on : nat_eq made.handle number ≡ true = eq-eqb made.handle number (ap (λ (c : Commit). c.handle) (some_is made commit there) ∙ own) in
    subst (λ (b : Bool). is_among (cond b (next ∷ rest) rest) at ≡ true) (sym on) (subst (λ (n : ℕ). is_among (next ∷ rest) n ≡ true) (sym here) (among-first next rest))
own-among number next (made ∷ history) (suc place) at commit there own is =
    by (nat_eq made.handle number) (own-among number (next + 1) history place at commit there own (omega (arith, is)))
  where
    by : (b : Bool) → is_among (numbers_from number (next + 1) history) at ≡ true
        → is_among (cond b (next ∷ numbers_from number (next + 1) history) (numbers_from number (next + 1) history)) at
        ≡ true
    by true among = among-rest next at (numbers_from number (next + 1) history) among
    by false among = among

-- ---- those of others

-- of the first so many commits there are no more
pub count-first : (number k : ℕ) (history : List Commit)
    → count_of_others number (take k history) ≤ count_of_others number history
count-first number zero history = omega arith
count-first number (suc k) [] = omega arith
count-first number (suc k) (commit ∷ history) = by (nat_eq commit.handle number) (count-first number k history)
  where
    by : (b : Bool) → count_of_others number (take k history) ≤ count_of_others number history
        → cond b (count_of_others number (take k history)) (count_of_others number (take k history) + 1) ≤ cond b (count_of_others number history) (count_of_others number history + 1)
    by true le = le
    by false le = omega (arith, le)

-- one that stands behind some and before others is one more
pub count-more : (number : ℕ) (history : List Commit) (from place to : ℕ) (commit : Commit)
    → slice_get history place ≡ Some commit → (commit.handle ≡ number → ⊥) → from ≤ place → place < to
    → count_of_others number (take from history) + 1 ≤ count_of_others number (take to history)
count-more number [] from place to commit there off le lt = absurd cc
count-more number (made ∷ history) from place zero commit there off le lt = absurd (omega arith)
count-more number (made ∷ history) (suc from) zero (suc to) commit there off le lt = absurd (omega arith)
count-more number (made ∷ history) zero zero (suc to) commit there off le lt =
    let other : nat_eq made.handle number ≡ false = ne_eqb made.handle number (λ (own : made.handle ≡ number). off (ap (λ (c : Commit). c.handle) (sym (some_is made commit there)) ∙ own)) in
    subst (λ (b : Bool). 0 + 1 ≤ cond b (count_of_others number (take to history)) (count_of_others number (take to history) + 1)) (sym other) (omega arith)
count-more number (made ∷ history) zero (suc place) (suc to) commit there off le lt =
    by (nat_eq made.handle number) (count-more number history zero place to commit there off (omega arith) (omega arith))
  where
    by : (b : Bool) → count_of_others number (take zero history) + 1 ≤ count_of_others number (take to history)
        → 0 + 1 ≤ cond b (count_of_others number (take to history)) (count_of_others number (take to history) + 1)
    by true more = omega (arith, more)
    by false more = omega (arith, more)
count-more number (made ∷ history) (suc from) (suc place) (suc to) commit there off le lt =
    by (nat_eq made.handle number) (count-more number history from place to commit there off (omega arith) (omega arith))
  where
    by : (b : Bool) → count_of_others number (take from history) + 1 ≤ count_of_others number (take to history)
        → cond b (count_of_others number (take from history)) (count_of_others number (take from history) + 1) + 1 ≤ cond b (count_of_others number (take to history)) (count_of_others number (take to history) + 1)
    by true more = more
    by false more = omega (arith, more)
