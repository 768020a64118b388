-- Lists that are passed item by item.
use Rattle.std.proofs.Common.{◌≡◌, ℕ, ◌+◌, ◌<◌, Bool, true, cond, ◌||◌, List, [], ◌∷◌, ◌++◌, length, get_or, map, refl, sym, ap, subst, ◌∙◌, arith}
use Rattle.std.specs.List.{AllByRecursion, filter, list_any, range_with_len}
use Rattle.std.proofs.lemmas.List.{map-id}
use Rattle.std.proofs.lemmas.List.Elements.{All-from_recursion, filter-append}
use Rattle.std.proofs.lemmas.List.Folds.{list_any_at}
use Rattle.std.proofs.lemmas.List.FromFn.{map-range_with_len_more}

pub any-map : {A B : Type 0} (h : A → B) (p : B → Bool) (xs : List A)
    → list_any p (map h xs) ≡ list_any (λ x. p (h x)) xs
any-map h p [] = refl
any-map h p (x ∷ xs) = ap (λ b. p (h x) || b) (any-map h p xs)

-- what holds of all items holds of one that was read
pub all_read : {A : Type 0} (P : A → Type 0) (xs : List A) (i : ℕ) (x : A) → AllByRecursion P xs → i < length xs
    → x ≡ get_or xs i x → P x
all_read P xs i x h lt is = subst P (sym is) (All-from_recursion P xs h i x lt)

module _ {A B : Type 0} (h : A → B) (p : B → Bool) (xs : List A) (i : ℕ) (x : A) (lt : i < length xs) (is : x ≡ get_or xs i x) where
  -- one item passes
  pub any-found : p (h x) ≡ true → list_any p (map h xs) ≡ true
  any-found passes = any-map h p xs ∙ list_any_at (λ y. p (h y)) xs i x lt (ap (λ y. p (h y)) (sym is) ∙ passes)

range-next : (n : ℕ) → range_with_len 0 (n + 1) ≡ range_with_len 0 n ++ n ∷ []
range-next n =
    sym (map-id (range_with_len 0 (n + 1))) ∙ map-range_with_len_more (λ x. x) 0 n n (omega arith)
    ∙ ap (λ xs. xs ++ n ∷ []) (map-id (range_with_len 0 n))

-- one number more
pub filter-next : (p : ℕ → Bool) (n : ℕ)
    → filter p (range_with_len 0 (n + 1)) ≡ filter p (range_with_len 0 n) ++ cond (p n) (n ∷ []) []
filter-next p n = ap (filter p) (range-next n) ∙ filter-append p (range_with_len 0 n) (n ∷ [])
