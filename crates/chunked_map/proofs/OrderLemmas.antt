-- Entries in order, of which a key is behind a front and before a rest: what is found, put and taken out stands between
-- these.
use Rattle.std.proofs.Common.{◌≡◌, ℕ, zero, suc, ◌<◌, ◌≤◌, Bool, true, false, cond, not, T, List, [], ◌∷◌, ◌++◌, length, get_or, Some, refl, sym, ap, ◌∙◌, arith}
use Rattle.std.specs.Cmp.{IsTotalOrder}
use Rattle.std.specs.FinMap.{find, is_sorted}
use Rattle.std.specs.FinMap.Entries.{below_all, put, where_key, by_order}
use Rattle.std.specs.Ordering.{eq_by_cmp, is_eq, is_lt}
use Rattle.std.specs.declared.cmp.Ordering.{Ordering}
use Rattle.std.specs.declared.cmp.Ordering.TheVariants.{Less, Equal, Greater}
use Rattle.std.proofs.lemmas.List.Elements.{filter-append}
use Rattle.general_words.proofs.Tests.{both, first, second}
use Rattle.general_words.proofs.Orders.{less, is_less, turned}
use Rattle.general_words.proofs.Entries.{find-below}
use Rattle.chunked_map.specs.Chunks.{all_before}

module _ {K X : Type 0} (R : K → K → Ordering) where
  below_all-left : (q : K) (xs ys : List (K × X)) → T (below_all R q (xs ++ ys)) → T (below_all R q xs)
  below_all-left q [] ys h = tt
  below_all-left q (x ∷ xs) ys h = both _ _ (first _ _ h) (below_all-left q xs ys (second _ _ h))

  pub below_all-right : (q : K) (xs ys : List (K × X)) → T (below_all R q (xs ++ ys)) → T (below_all R q ys)
  below_all-right q [] ys h = h
  below_all-right q (x ∷ xs) ys h = below_all-right q xs ys (second _ _ h)

  pub sorted_left : (xs ys : List (K × X)) → T (is_sorted R (xs ++ ys)) → T (is_sorted R xs)
  sorted_left [] ys h = tt
  sorted_left (x ∷ xs) ys h = both _ _ (below_all-left x.0 xs ys (first _ _ h)) (sorted_left xs ys (second _ _ h))

  pub sorted_right : (xs ys : List (K × X)) → T (is_sorted R (xs ++ ys)) → T (is_sorted R ys)
  sorted_right [] ys h = h
  sorted_right (x ∷ xs) ys h = sorted_right xs ys (second _ _ h)

  pub all_before-append : (q : K) (xs ys : List (K × X)) → T (all_before R q xs) → T (all_before R q ys)
      → T (all_before R q (xs ++ ys))
  all_before-append q [] ys g h = h
  all_before-append q (x ∷ xs) ys g h = both _ _ (first _ _ g) (all_before-append q xs ys (second _ _ g) h)

  module _ (o : IsTotalOrder R) where
    -- what stands before the first of some keys that are all before q is before q
    pub all_before-front : (q : K) (xs : List (K × X)) (y : K × X) (ys : List (K × X)) → T (is_sorted R (xs ++ y ∷ ys))
        → R y.0 q ≡ Less → T (all_before R q xs)
    all_before-front q [] y ys h lt = tt
    all_before-front q (x ∷ xs) y ys h lt =
        both _ _ (is_less _ (o.trans x.0 y.0 q (less _ (first _ _ (below_all-right x.0 xs (y ∷ ys) (first _ _ h)))) lt)) (all_before-front q xs y ys (second _ _ h) lt)

    -- the last key tells of those before it
    pub all_before-last : (q : K) (es : List (K × X)) (n : ℕ) (d : K × X) → suc n ≡ length es → T (is_sorted R es)
        → T (is_lt (R (get_or es n d).0 q)) → T (all_before R q es)
    all_before-last q [] n d at_end h lt = tt
    all_before-last q (e ∷ []) zero d at_end h lt = both _ _ lt tt
    all_before-last q (e ∷ []) (suc n) d at_end h lt = absurd (omega arith)
    all_before-last q (e ∷ f ∷ es) zero d at_end h lt = absurd (omega arith)
    all_before-last q (e ∷ f ∷ es) (suc n) d at_end h lt =
        let others : T (all_before R q (f ∷ es)) = all_before-last q (f ∷ es) n d (omega arith) (second _ _ h) lt in
        both _ _ (is_less _ (o.trans e.0 f.0 q (less _ (first _ _ (first _ _ h))) (less _ (first _ _ others)))) others

    further : (q l : K) (e : K × X) (es : List (K × X)) → R l e.0 ≡ Less → is_lt (R l q) ≡ false → T (is_lt (R q e.0))
    further q l e es lt not_before =
        elim (R l q) as (λ r. R l q ≡ r → is_lt r ≡ false → T (is_lt (R q e.0))) [
          | Less ↦ λ p s. absurd cc
          | Equal ↦ λ p s. is_less _ (sym (o.congr l q e.0 p) ∙ lt)
          | Greater ↦ λ p s. is_less _ (o.trans q l e.0 (turned o l q Greater p) lt)
        ] refl not_before

    pub behind_key : (q l : K) (es : List (K × X)) → T (below_all R l es) → is_lt (R l q) ≡ false → T (below_all R q es)
    behind_key q l [] h not_before = tt
    behind_key q l (e ∷ es) h not_before =
        both _ _ (further q l e es (less _ (first _ _ h)) not_before) (behind_key q l es (second _ _ h) not_before)

    -- a last key that is not before q has only larger ones behind it
    pub below_all-last : (q : K) (es fs : List (K × X)) (n : ℕ) (d : K × X) → suc n ≡ length es
        → T (is_sorted R (es ++ fs)) → is_lt (R (get_or es n d).0 q) ≡ false → T (below_all R q fs)
    below_all-last q [] fs n d at_end h not_before = absurd (omega arith)
    below_all-last q (e ∷ []) fs zero d at_end h not_before = behind_key q e.0 fs (first _ _ h) not_before
    below_all-last q (e ∷ []) fs (suc n) d at_end h not_before = absurd (omega arith)
    below_all-last q (e ∷ f ∷ es) fs zero d at_end h not_before = absurd (omega arith)
    below_all-last q (e ∷ f ∷ es) fs (suc n) d at_end h not_before =
        below_all-last q (f ∷ es) fs n d (omega arith) (second _ _ h) not_before

    find-past : (q : K) (xs ys : List (K × X)) → T (all_before R q xs) → find R q (xs ++ ys) ≡ find R q ys
    find-past q [] ys h = refl
    find-past q (x ∷ xs) ys h =
        ap (λ r. cond (is_eq r) (Some x.1) (find R q (xs ++ ys))) (turned o x.0 q Less (less _ (first _ _ h)))
        ∙ find-past q xs ys (second _ _ h)

    find-short : (q : K) (xs ys : List (K × X)) → T (below_all R q ys) → find R q (xs ++ ys) ≡ find R q xs
    find-short q [] ys h = find-below R q ys h
    find-short q (x ∷ xs) ys h = ap (cond (eq_by_cmp R q x.0) (Some x.1)) (find-short q xs ys h)

    put-past : (q : K) (v : X) (xs ys : List (K × X)) → T (all_before R q xs)
        → put R q v (xs ++ ys) ≡ xs ++ put R q v ys
    put-past q v [] ys h = refl
    put-past q v (x ∷ xs) ys h =
        ap (λ r. by_order r ((q, v) ∷ x ∷ (xs ++ ys)) ((x.0, v) ∷ (xs ++ ys)) (x ∷ put R q v (xs ++ ys))) (turned o x.0 q Less (less _ (first _ _ h)))
        ∙ ap (λ zs. x ∷ zs) (put-past q v xs ys (second _ _ h))

    put-first : (q : K) (v : X) (ys : List (K × X)) → T (below_all R q ys) → put R q v ys ≡ (q, v) ∷ ys
    put-first q v [] h = refl
    put-first q v (y ∷ ys) h =
        ap (λ r. by_order r ((q, v) ∷ y ∷ ys) ((y.0, v) ∷ ys) (y ∷ put R q v ys)) (less _ (first _ _ h))

    put-short : (q : K) (v : X) (xs ys : List (K × X)) → T (below_all R q ys)
        → put R q v (xs ++ ys) ≡ put R q v xs ++ ys
    put-short q v [] ys h = put-first q v ys h
    put-short q v (x ∷ xs) ys h =
        ap (λ zs. by_order (R q x.0) ((q, v) ∷ x ∷ (xs ++ ys)) ((x.0, v) ∷ (xs ++ ys)) (x ∷ zs)) (put-short q v xs ys h)
        ∙ elim (R q x.0) as (λ r. by_order r ((q, v) ∷ x ∷ (xs ++ ys)) ((x.0, v) ∷ (xs ++ ys)) (x ∷ (put R q v xs ++ ys)) ≡ by_order r ((q, v) ∷ x ∷ xs) ((x.0, v) ∷ xs) (x ∷ put R q v xs) ++ ys) [
          | Less ↦ refl
          | Equal ↦ refl
          | Greater ↦ refl
        ]

    without-past : (q : K) (xs : List (K × X)) → T (all_before R q xs)
        → where_key R (λ k. not (eq_by_cmp R q k)) xs ≡ xs
    without-past q [] h = refl
    without-past q (x ∷ xs) h =
        let rest = where_key R (λ k. not (eq_by_cmp R q k)) xs in
        ap (λ r. cond (not (is_eq r)) (x ∷ rest) rest) (turned o x.0 q Less (less _ (first _ _ h)))
        ∙ ap (λ zs. x ∷ zs) (without-past q xs (second _ _ h))

    without-short : (q : K) (ys : List (K × X)) → T (below_all R q ys)
        → where_key R (λ k. not (eq_by_cmp R q k)) ys ≡ ys
    without-short q [] h = refl
    without-short q (y ∷ ys) h =
        let rest = where_key R (λ k. not (eq_by_cmp R q k)) ys in
        ap (λ r. cond (not (is_eq r)) (y ∷ rest) rest) (less _ (first _ _ h))
        ∙ ap (λ zs. y ∷ zs) (without-short q ys (second _ _ h))

    -- what is found, put and taken out between keys that are smaller and keys that are larger
    module _ (q : K) (xs c ys : List (K × X)) (before : T (all_before R q xs)) (behind : T (below_all R q ys)) where
      pub find-between : find R q (xs ++ (c ++ ys)) ≡ find R q c
      find-between = find-past q xs (c ++ ys) before ∙ find-short q c ys behind

      pub put-between : (v : X) → put R q v (xs ++ (c ++ ys)) ≡ xs ++ (put R q v c ++ ys)
      put-between v = put-past q v xs (c ++ ys) before ∙ ap (λ zs. xs ++ zs) (put-short q v c ys behind)

      pub without-between : where_key R (λ k. not (eq_by_cmp R q k)) (xs ++ (c ++ ys))
          ≡ xs ++ (where_key R (λ k. not (eq_by_cmp R q k)) c ++ ys)
      without-between =
          let p = λ (k : K). not (eq_by_cmp R q k) in
          filter-append (λ (e : K × X). p e.0) xs (c ++ ys)
          ∙ (λ i. without-past q xs before i ++ filter-append (λ (e : K × X). p e.0) c ys i)
          ∙ ap (λ zs. xs ++ (where_key R p c ++ zs)) (without-short q ys behind)

  -- at most one entry more
  pub length-put : (q : K) (v : X) (es : List (K × X)) → length (put R q v es) ≤ suc (length es)
  length-put q v [] = omega arith
  length-put q v (e ∷ es) =
      elim (R q e.0) as (λ r. length (by_order r ((q, v) ∷ e ∷ es) ((e.0, v) ∷ es) (e ∷ put R q v es)) ≤ suc (suc (length es))) [
        | Less ↦ omega arith
        | Equal ↦ omega arith
        | Greater ↦ let more = length-put q v es in omega arith
      ]

  pub some-put : (q : K) (v : X) (es : List (K × X)) → 0 < length (put R q v es)
  some-put q v [] = omega arith
  some-put q v (e ∷ es) =
      elim (R q e.0) as (λ r. 0 < length (by_order r ((q, v) ∷ e ∷ es) ((e.0, v) ∷ es) (e ∷ put R q v es))) [
        | Less ↦ omega arith
        | Equal ↦ omega arith
        | Greater ↦ omega arith
      ]

  -- no entry more where the key is there
  pub length-put_there : (q : K) (v w : X) (es : List (K × X)) → IsTotalOrder R → T (is_sorted R es)
      → find R q es ≡ Some w → length (put R q v es) ≡ length es
  length-put_there q v w [] o h found = absurd cc
  length-put_there q v w (e ∷ es) o h found =
      elim (R q e.0) as (λ r. R q e.0 ≡ r → cond (is_eq r) (Some e.1) (find R q es) ≡ Some w → length (by_order r ((q, v) ∷ e ∷ es) ((e.0, v) ∷ es) (e ∷ put R q v es)) ≡ suc (length es)) [
        | Less ↦ λ p s. absurd (cc (s, find-below R q es (behind_less o q e.0 es p (first _ _ h))))
        | Equal ↦ λ p s. refl
        | Greater ↦ λ p s. ap suc (length-put_there q v w es o (second _ _ h) s)
      ] refl found
    where
      behind_less : IsTotalOrder R → (q x : K) (es : List (K × X)) → R q x ≡ Less → T (below_all R x es)
          → T (below_all R q es)
      behind_less o q x [] lt g = tt
      behind_less o q x (f ∷ fs) lt g =
          both _ _ (is_less _ (o.trans q x f.0 lt (less _ (first _ _ g)))) (behind_less o q x fs lt (second _ _ g))

  pub length-without : (p : K → Bool) (es : List (K × X)) → length (where_key R p es) ≤ length es
  length-without p [] = omega arith
  length-without p (e ∷ es) =
      elim (p e.0) as (λ b. length (cond b (e ∷ where_key R p es) (where_key R p es)) ≤ suc (length es)) [
        | true ↦ let fewer = length-without p es in omega arith
        | false ↦ let fewer = length-without p es in omega arith
      ]
