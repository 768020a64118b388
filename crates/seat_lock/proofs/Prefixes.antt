-- Lists that begin others.
use Rattle.std.proofs.Common.{◌≡◌, ◌≤◌, Bool, true, false, cond, nat_lt, get_or, drop, List, [], ◌∷◌, ◌++◌, length, sym, refl, ap, ◌∙◌, append_assoc, append-nil, arith, length-append, ltb-true, ltb-false, le-ltb}
use mathlib.Core.List.{IsPrefix}
use Rattle.seat_lock.specs.Story.{longer}

module _ {E : Type 0} where
  pub prefix-self : (xs : List E) → IsPrefix xs xs
  prefix-self xs = ([], append-nil xs)

  pub prefix-none : (xs : List E) → IsPrefix [] xs
  prefix-none xs = (xs, refl)

  pub prefix-more : (xs ys zs : List E) → IsPrefix xs ys → IsPrefix xs (ys ++ zs)
  prefix-more xs ys zs p = (p.0 ++ zs, sym (append_assoc xs p.0 zs) ∙ ap (λ l. l ++ zs) p.1)

  -- of two beginnings of one list the shorter begins the longer
  pub prefix-shorter : (xs ys log : List E) → IsPrefix xs log → IsPrefix ys log → length xs ≤ length ys → IsPrefix xs ys
  prefix-shorter [] ys log p q le = prefix-none ys
  prefix-shorter (x ∷ xs) [] log p q le = absurd (omega arith)
  prefix-shorter (x ∷ xs) (y ∷ ys) log p q le =
      let both : x ∷ (xs ++ p.0) ≡ y ∷ (ys ++ q.0) = p.1 ∙ sym q.1 in
      let first : x ≡ y = ap (λ l. get_or l 0 x) both in
      let rest = prefix-shorter xs ys (ys ++ q.0) (p.0, ap (drop 1) both) (q.0, refl) (omega arith) in
      (rest.0, λ i. first i ∷ rest.1 i)

  -- the longer of two beginnings of one list begins with both, and begins that list
  pub record IsLonger (xs ys log both : List E) : Type 0 where
    pub first : IsPrefix xs both
    pub second : IsPrefix ys both
    pub whole : IsPrefix both log

  pub longer-begins : (xs ys log : List E) → IsPrefix xs log → IsPrefix ys log → IsLonger xs ys log (longer xs ys)
  longer-begins xs ys log p q = by_length (nat_lt (length xs) (length ys)) refl
    where
      by_length : (b : Bool) → nat_lt (length xs) (length ys) ≡ b → IsLonger xs ys log (cond b ys xs)
      by_length true is =
          record {
            first = prefix-shorter xs ys log p q (let lt = ltb-true (length xs) (length ys) is in omega arith);
            second = prefix-self ys;
            whole = q;
          }
      by_length false is =
          record {
            first = prefix-self xs;
            second = prefix-shorter ys xs log q p (ltb-false (length xs) (length ys) is);
            whole = p;
          }

  pub prefix-length : (xs ys : List E) → IsPrefix xs ys → length xs ≤ length ys
  prefix-length xs ys p = let long = ap length p.1 in let sum = length-append xs p.0 in omega arith

  pub longer-whole : (xs ys log : List E) → xs ≡ log → IsPrefix ys log → longer xs ys ≡ log
  longer-whole xs ys log same p =
      let short = prefix-length ys log p in
      let long = ap length same in
      ap (λ b. cond b ys xs) (le-ltb (length xs) (length ys) (omega arith)) ∙ same

  pub prefix-trans : (xs ys zs : List E) → IsPrefix xs ys → IsPrefix ys zs → IsPrefix xs zs
  prefix-trans xs ys zs p q = (p.0 ++ q.0, sym (append_assoc xs p.0 q.0) ∙ (ap (λ l. l ++ q.0) p.1 ∙ q.1))
