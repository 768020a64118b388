-- The own mount put back among the others, and files weighed one after another.
use Rattle.std.proofs.Common.{◌≡◌, ◌⊎◌, ℕ, zero, suc, ◌+◌, ◌<◌, ◌≤◌, nat_lt, true, false, cond, List, [], ◌∷◌, ◌++◌, length, map as over, slice_get, Some, None, inl, inr, refl, sym, ap, ◌∙◌, arith}
use Rattle.std.specs.List.{insert, remove, sum_by}
use Rattle.std.specs.Option.{option_or, unwrap_or}
use Rattle.std.proofs.lemmas.Bool.{cases_lt, cond-true, cond-false, lt-ltb, le-ltb}
use Rattle.std.proofs.lemmas.List.Sums.{sum_by-cons}
use Rattle.std.proofs.lemmas.Option.{none-some, same_Some}
use Rattle.general_words.specs.Searches.{first_some}
use Rattle.mounted_files.specs.Begun.{number_of}
use Rattle.mounted_files.specs.Weighed.{added_weight, is_own, own_alone, own_weight, visible_weight, weighed_behind, weighed_file, weighed_from}
use Rattle.mounted_files.specs.declared.files.MountedFile.{MountedFile}

-- ---- numbers among the others

pub number_of-below : (place i : ℕ) → i < place → number_of place i ≡ i
number_of-below place i lt = cond-true (nat_lt i place) i (suc i) (lt-ltb i place lt)

pub number_of-above : (place i : ℕ) → place ≤ i → number_of place i ≡ suc i
number_of-above place i le = cond-false (nat_lt i place) i (suc i) (le-ltb i place le)

number_of-suc : (place i : ℕ) → number_of (suc place) (suc i) ≡ suc (number_of place i)
number_of-suc place i = by (cases_lt i place)
  where
    by : (i < place) ⊎ (place ≤ i) → number_of (suc place) (suc i) ≡ suc (number_of place i)
    by (inl lt) = number_of-below (suc place) (suc i) (omega (arith, lt)) ∙ ap suc (sym (number_of-below place i lt))
    by (inr le) = number_of-above (suc place) (suc i) (omega (arith, le)) ∙ ap suc (sym (number_of-above place i le))

-- none of the others has the place
pub number_of-other : (place i : ℕ) → number_of place i ≡ place → ⊥
number_of-other place i is = by (cases_lt i place)
  where
    by : (i < place) ⊎ (place ≤ i) → ⊥
    by (inl lt) = let e = number_of-below place i lt in omega (arith, e, is, lt)
    by (inr le) = let e = number_of-above place i le in omega (arith, e, is, le)

pub slice_get-remove : {A : Type 0} (xs : List A) (place i : ℕ)
    → slice_get (remove xs place) i ≡ slice_get xs (number_of place i)
slice_get-remove [] zero i = refl
slice_get-remove [] (suc place) i = refl
slice_get-remove (x ∷ xs) zero i = sym (ap (slice_get (x ∷ xs)) (number_of-above 0 i (omega arith)))
slice_get-remove (x ∷ xs) (suc place) zero = sym (ap (slice_get (x ∷ xs)) (number_of-below (suc place) 0 (omega arith)))
slice_get-remove (x ∷ xs) (suc place) (suc i) =
    slice_get-remove xs place i ∙ sym (ap (slice_get (x ∷ xs)) (number_of-suc place i))

pub length-remove : {A : Type 0} (xs : List A) (place : ℕ) (x : A) → slice_get xs place ≡ Some x
    → length (remove xs place) + 1 ≡ length xs
length-remove [] zero x there = absurd (none-some x there)
length-remove [] (suc place) x there = absurd (none-some x there)
length-remove (y ∷ xs) zero x there = omega arith
length-remove (y ∷ xs) (suc place) x there = let more = length-remove xs place x there in omega (arith, more)

pub insert-remove : {A : Type 0} (xs : List A) (place : ℕ) (x : A) → slice_get xs place ≡ Some x
    → insert (remove xs place) place x ≡ xs
insert-remove [] zero x there = absurd (none-some x there)
insert-remove [] (suc place) x there = absurd (none-some x there)
insert-remove (y ∷ xs) zero x there = ap (λ z. z ∷ xs) (sym (same_Some y x there))
insert-remove (y ∷ xs) (suc place) x there = ap (λ l. y ∷ l) (insert-remove xs place x there)

pub over-insert : {A B : Type 0} (f : A → B) (xs : List A) (place : ℕ) (x : A)
    → over f (insert xs place x) ≡ insert (over f xs) place (f x)
over-insert f [] zero x = refl
over-insert f [] (suc place) x = refl
over-insert f (y ∷ xs) zero x = refl
over-insert f (y ∷ xs) (suc place) x = ap (λ l. f y ∷ l) (over-insert f xs place x)

-- an element behind an insertion is the new one, or has its number among the others
pub slice_get-insert : {A : Type 0} (xs : List A) (place : ℕ) (x : A) (j : ℕ) (y : A) → place ≤ length xs
    → slice_get (insert xs place x) j ≡ Some y
    → ((j ≡ place) × (x ≡ y)) ⊎ ((i : ℕ) × (number_of place i ≡ j) × (slice_get xs i ≡ Some y))
slice_get-insert xs zero x zero y within there = inl (refl, same_Some x y there)
slice_get-insert xs zero x (suc j) y within there = inr (j, number_of-above 0 j (omega arith), there)
slice_get-insert [] (suc place) x j y within there = absurd (omega (arith, within))
slice_get-insert (z ∷ xs) (suc place) x zero y within there =
    inr (0, number_of-below (suc place) 0 (omega arith), there)
slice_get-insert (z ∷ xs) (suc place) x (suc j) y within there =
    by (slice_get-insert xs place x j y (omega (arith, within)) there)
  where
    by : ((j ≡ place) × (x ≡ y)) ⊎ ((i : ℕ) × (number_of place i ≡ j) × (slice_get xs i ≡ Some y))
        → ((suc j ≡ suc place) × (x ≡ y))
        ⊎ ((i : ℕ) × (number_of (suc place) i ≡ suc j) × (slice_get (z ∷ xs) i ≡ Some y))
    by (inl here) = inl (ap suc here.0, here.1)
    by (inr other) = inr (suc other.0, number_of-suc place other.0 ∙ ap suc other.1, other.2)

-- ---- weights

-- files weighed behind others, and those behind them
pub weighed_from-append : (sum : ℕ) (files behind : List MountedFile)
    → weighed_from sum (files ++ behind)
    ≡ weighed_from sum files ++ weighed_from (sum + sum_by added_weight (weighed_from sum files)) behind
weighed_from-append sum [] behind = ap (λ n. weighed_from n behind) (omega arith)
weighed_from-append sum (file ∷ files) behind =
    let first = weighed_file sum file in
    let rest = weighed_from (sum + added_weight first) files in
    let moved : (sum + added_weight first) + sum_by added_weight rest ≡ sum + sum_by added_weight (first ∷ rest) = omega (arith, sum_by-cons added_weight first rest) in
    ap (λ l. first ∷ l) (weighed_from-append (sum + added_weight first) files behind ∙ ap (λ n. rest ++ weighed_from n behind) moved)

pub length-weighed : (sum : ℕ) (files : List MountedFile) → length (weighed_from sum files) ≡ length files
length-weighed sum [] = refl
length-weighed sum (file ∷ files) = ap suc (length-weighed (sum + added_weight (weighed_file sum file)) files)

module _ (own : MountedFile) (is : is_own own ≡ true) where
  own_file : (sum : ℕ) → weighed_file sum own ≡ weighed_file 0 own
  own_file sum =
      ap (λ b. record own { state = weighed_behind (cond b 0 sum) own.state }) is
      ∙ sym (ap (λ b. record own { state = weighed_behind (cond b 0 0) own.state }) is)

  own_adds : (sum : ℕ) → added_weight (weighed_file sum own) ≡ 0
  own_adds sum = cond-true (is_own own) 0 (visible_weight (weighed_file sum own).state) is

  -- the own file, weighed among the others, is weighed behind none and adds nothing to what is behind it
  pub weighed_from-insert : (sum : ℕ) (files : List MountedFile) (place : ℕ) → place ≤ length files
      → weighed_from sum (insert files place own) ≡ insert (weighed_from sum files) place (weighed_file 0 own)
  weighed_from-insert sum files zero within = λ k. own_file sum k ∷ same k
    where
      same : weighed_from (sum + added_weight (weighed_file sum own)) files ≡ weighed_from sum files
      same = ap (λ n. weighed_from n files) (let nothing = own_adds sum in omega (arith, nothing))
  weighed_from-insert sum [] (suc place) within = absurd (omega (arith, within))
  weighed_from-insert sum (file ∷ files) (suc place) within =
      ap (λ l. weighed_file sum file ∷ l) (weighed_from-insert (sum + added_weight (weighed_file sum file)) files place (omega (arith, within)))

  alone : own_alone own ≡ Some (visible_weight (weighed_behind 0 own.state))
  alone = cond-true (is_own own) (Some (visible_weight (weighed_behind 0 own.state))) None is

  pub own_weight-insert : (files : List MountedFile) (place : ℕ) → place ≤ length files
      → ((i : ℕ) (file : MountedFile) → slice_get files i ≡ Some file → is_own file ≡ false)
      → own_weight (insert files place own) ≡ visible_weight (weighed_behind 0 own.state)
  own_weight-insert files place within none = ap (λ o. unwrap_or o 0) (found files place within none)
    where
      found : (files : List MountedFile) (place : ℕ) → place ≤ length files
          → ((i : ℕ) (file : MountedFile) → slice_get files i ≡ Some file → is_own file ≡ false)
          → first_some own_alone (insert files place own) ≡ Some (visible_weight (weighed_behind 0 own.state))
      found files zero within none = ap (λ o. option_or o (first_some own_alone files)) alone
      found [] (suc place) within none = absurd (omega (arith, within))
      found (file ∷ files) (suc place) within none =
          ap (λ o. option_or o (first_some own_alone (insert files place own))) (cond-false (is_own file) (Some (visible_weight (weighed_behind 0 file.state))) None (none 0 file refl))
          ∙ found files place (omega (arith, within)) (λ i. none (suc i))
