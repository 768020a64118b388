-- The last of a list.
use Rattle.std.proofs.Common.{◌≡◌, ℕ, ◌+◌, ◌-◌, ◌≤◌, List, [], ◌∷◌, ◌++◌, length, drop, sym, ap, ◌∙◌, arith, length-append, length-drop, append_assoc}
use Rattle.std.proofs.lemmas.List.{drop-append-le, drop-drop}
use Rattle.circular_buffer.specs.Buffer.{keep_last}

module _ {X : Type 0} where
  -- of the last of a list and what comes behind it, the last are those of both lists
  pub keep_last-again : (n : ℕ) (xs ys : List X) → keep_last n (keep_last n xs ++ ys) ≡ keep_last n (xs ++ ys)
  keep_last-again n xs ys =
      let long = length-append xs ys in
      let left = length-drop (length xs - n) (xs ++ ys) in
      let sum : length xs - n + (length (drop (length xs - n) (xs ++ ys)) - n) ≡ length (xs ++ ys) - n = omega (arith, long, left) in
      ap (keep_last n) (sym (drop-append-le (length xs - n) xs ys (omega arith)))
      ∙ drop-drop (length (drop (length xs - n) (xs ++ ys)) - n) (length xs - n) (xs ++ ys)
      ∙ ap (λ k. drop k (xs ++ ys)) sum

  -- what is left out and what is kept are all
  pub length-keep_last : (n : ℕ) (xs : List X) → length xs - n + length (keep_last n xs) ≡ length xs
  length-keep_last n xs = omega (arith, length-drop (length xs - n) xs)

  pub keep_last-le : (n : ℕ) (xs : List X) → length (keep_last n xs) ≤ n
  keep_last-le n xs = omega (arith, length-drop (length xs - n) xs)

  -- one more is put behind the others, and the rest is still to come
  pub keep_last-next : (n : ℕ) (xs : List X) (x : X) (rest new : List X) → new ≡ keep_last n (xs ++ x ∷ [])
      → keep_last n (new ++ rest) ≡ keep_last n (xs ++ x ∷ rest)
  keep_last-next n xs x rest new is =
      ap (λ l. keep_last n (l ++ rest)) is
      ∙ keep_last-again n (xs ++ x ∷ []) rest
      ∙ ap (keep_last n) (append_assoc xs (x ∷ []) rest)
