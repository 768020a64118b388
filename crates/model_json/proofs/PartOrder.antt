-- Array parts sort by their indexes.
use Rattle.std.specs.Prelude.{◌≡◌, ℕ, zero, suc, ◌+◌, ◌-◌, ◌/◌, ◌%◌, ◌^◌, ◌<◌, ◌≤◌, List, [], ◌∷◌, ◌++◌, length, replicate}
use Rattle.std.proofs.Common.{sym, ap, ap₂, ◌∙◌, arith, inl, inr, append_assoc, append-nil, length-append}
use Rattle.std.specs.Fmt.{decimal}
use Rattle.std.specs.Cmp.{tied_itself, nat_cmp_is}
use Rattle.std.specs.Ordering.{ordering_then}
use Rattle.std.specs.declared.cmp.Ordering.TheVariants.{Less}
use Rattle.std.proofs.lemmas.Bool.{cases_lt}
use Rattle.std.proofs.lemmas.Cmp.{nat_cmp_total}
use Rattle.std.proofs.lemmas.Fmt.{decimal_step, decimal_digit, decimal_nonempty}
use Rattle.general_words.specs.Texts.{text_cmp}
use Rattle.model_names.specs.ArrayPart.{last_index, array_part}

-- what stands behind the number sign
abbrev body : ℕ → List ℕ
body index = replicate (length (decimal index) - 1) 95 ++ decimal index

less-here : (x y : ℕ) (xs ys : List ℕ) → x < y → text_cmp (x ∷ xs) (y ∷ ys) ≡ Less
less-here x y xs ys less = ap (λ o. ordering_then o (text_cmp xs ys)) (sym (nat_cmp_is x y Less less))

less-later : (x : ℕ) (xs ys : List ℕ) → text_cmp xs ys ≡ Less → text_cmp (x ∷ xs) (x ∷ ys) ≡ Less
less-later x xs ys less = ap (λ o. ordering_then o (text_cmp xs ys)) (tied_itself nat_cmp_total x) ∙ less

less-behind : (front xs ys : List ℕ) → text_cmp xs ys ≡ Less → text_cmp (front ++ xs) (front ++ ys) ≡ Less
less-behind [] xs ys less = less
less-behind (x ∷ front) xs ys less = less-later x (front ++ xs) (front ++ ys) (less-behind front xs ys less)

one-digit : (index : ℕ) → index < 10 → body index ≡ (48 + index) ∷ []
one-digit index small = rw (decimal_digit index small)

more-digits : (index : ℕ) → 10 ≤ index → index < 2 ^ 64
    → body index ≡ 95 ∷ (body (index / 10) ++ (48 + index % 10) ∷ [])
more-digits index large small =
    let step = decimal_step index large small in
    let front = decimal (index / 10) in
    let last = (48 + index % 10) ∷ [] in
    let some : 0 < length front = decimal_nonempty (index / 10) (omega (arith, small)) in
    let len : length (decimal index) ≡ length front + 1 = ap length step ∙ length-append front last in
    let count : length (decimal index) - 1 ≡ suc (length front - 1) = omega (arith, len, some) in
    ap₂ (λ n (ds : List ℕ). replicate n 95 ++ ds) count step
    ∙ ap (λ l. 95 ∷ l) (sym (append_assoc (replicate (length front - 1) 95) front last))

less-body : (fuel i j : ℕ) (zs ws : List ℕ) → i ≤ fuel → i < j → j < 2 ^ 64
    → text_cmp (body i ++ zs) (body j ++ ws) ≡ Less
less-body zero i j zs ws enough less small =
    elim (cases_lt j 10) [
      | inl short ↦ ap₂ (λ a b. text_cmp (a ++ zs) (b ++ ws)) (one-digit i (omega arith)) (one-digit j short) ∙ less-here (48 + i) (48 + j) zs ws (omega arith)
      | inr long ↦ ap₂ (λ a b. text_cmp (a ++ zs) (b ++ ws)) (one-digit i (omega arith)) (more-digits j long small) ∙ less-here (48 + i) 95 zs ((body (j / 10) ++ (48 + j % 10) ∷ []) ++ ws) (omega arith)
    ]
less-body (suc fuel) i j zs ws enough less small =
    elim (cases_lt i 10) [
      | inl few ↦ elim (cases_lt j 10) [
        | inl short ↦ ap₂ (λ a b. text_cmp (a ++ zs) (b ++ ws)) (one-digit i few) (one-digit j short) ∙ less-here (48 + i) (48 + j) zs ws (omega arith)
        | inr long ↦ ap₂ (λ a b. text_cmp (a ++ zs) (b ++ ws)) (one-digit i few) (more-digits j long small) ∙ less-here (48 + i) 95 zs ((body (j / 10) ++ (48 + j % 10) ∷ []) ++ ws) (omega arith)
      ]
      | inr many ↦
          let long : 10 ≤ j = omega arith in
          let low : i < 2 ^ 64 = omega arith in
          let x = 48 + i % 10 in
          let y = 48 + j % 10 in
          let left : body i ++ zs ≡ 95 ∷ (body (i / 10) ++ x ∷ zs) = ap (λ l. l ++ zs) (more-digits i many low) ∙ ap (λ l. 95 ∷ l) (append_assoc (body (i / 10)) (x ∷ []) zs) in
          let right : body j ++ ws ≡ 95 ∷ (body (j / 10) ++ y ∷ ws) = ap (λ l. l ++ ws) (more-digits j long small) ∙ ap (λ l. 95 ∷ l) (append_assoc (body (j / 10)) (y ∷ []) ws) in
          ap₂ text_cmp left right ∙ less-later 95 (body (i / 10) ++ x ∷ zs) (body (j / 10) ++ y ∷ ws)
          (elim (cases_lt (i / 10) (j / 10)) [
            | inl front ↦ less-body fuel (i / 10) (j / 10) (x ∷ zs) (y ∷ ws) (omega arith) front (omega arith)
            | inr behind ↦
                let same : j / 10 ≡ i / 10 = omega arith in
                ap (λ n. text_cmp (body (i / 10) ++ x ∷ zs) (body n ++ y ∷ ws)) same
                ∙ less-behind (body (i / 10)) (x ∷ zs) (y ∷ ws) (less-here x y zs ws (omega arith))
          ])
    ]

-- the part of a smaller index comes first
pub array_part-order : (i j : ℕ) → i < j → j ≤ last_index → text_cmp (array_part i) (array_part j) ≡ Less
array_part-order i j less within =
    less-later 35 (body i) (body j) (ap₂ text_cmp (sym (append-nil (body i))) (sym (append-nil (body j))) ∙ less-body i i j [] [] (omega arith) less (omega (arith, within)))
