-- The entries of one maker, and of the numbers of a view.
use Rattle.std.proofs.Common.{◌≡◌, ℕ, zero, suc, ◌+◌, ◌<◌, cond, ◌==◌, List, [], ◌∷◌, ◌++◌, take, drop, length, append-nil, sym, refl, ap, ◌∙◌, subst, eq-eqb, ne_eqb, arith}
use Rattle.std.proofs.lemmas.List.Elements.{filter-append}
use mathlib.Core.List.{IsPrefix}
use Rattle.seat_lock.specs.Story.{made_by, HasNoMaker}
use Rattle.seat_lock.specs.Views.{with_gains, numbers_from}
use Rattle.seat_lock.specs.Rule.{one_if, times, Owns, IsWithin}

module _ {E : Type 0} (maker : E → ℕ) where
  pub made-append : (number : ℕ) (xs ys : List E)
      → made_by maker number (xs ++ ys) ≡ made_by maker number xs ++ made_by maker number ys
  made-append number xs ys = filter-append (λ entry. maker entry == number) xs ys

  pub made-prefix : (number : ℕ) (xs ys : List E) → IsPrefix xs ys
      → IsPrefix (made_by maker number xs) (made_by maker number ys)
  made-prefix number xs ys p =
      (made_by maker number p.0, sym (made-append number xs p.0) ∙ ap (made_by maker number) p.1)

  -- a beginning of the list has no entries of a number but the first of those that it made
  pub within-log : (seen log : List E) (xs : List (ℕ × List E)) → IsPrefix seen log → Owns maker log xs
      → IsWithin maker seen xs
  within-log seen log [] p a = tt
  within-log seen log (x ∷ xs) p a =
      (subst (IsPrefix (made_by maker x.0 seen)) a.0 (made-prefix x.0 seen log p), within-log seen log xs p a.1)

  pub owns-append : (log : List E) (xs ys : List (ℕ × List E)) → Owns maker log xs → Owns maker log ys
      → Owns maker log (xs ++ ys)
  owns-append log [] ys a b = b
  owns-append log (x ∷ xs) ys a b = (a.0, owns-append log xs ys a.1 b)

  pub owns-take : (log : List E) (count : ℕ) (xs : List (ℕ × List E)) → Owns maker log xs
      → Owns maker log (take count xs)
  owns-take log zero xs a = tt
  owns-take log (suc count) [] a = tt
  owns-take log (suc count) (x ∷ xs) a = (a.0, owns-take log count xs a.1)

  pub owns-drop : (log : List E) (count : ℕ) (xs : List (ℕ × List E)) → Owns maker log xs
      → Owns maker log (drop count xs)
  owns-drop log zero xs a = a
  owns-drop log (suc count) [] a = tt
  owns-drop log (suc count) (x ∷ xs) a = owns-drop log count xs a.1

  -- who adds entries has them too
  pub owns-gained : (log added : List E) (xs : List (ℕ × List E)) → Owns maker log xs
      → Owns maker (log ++ added) (with_gains maker added xs)
  owns-gained log added [] a = tt
  owns-gained log added (x ∷ xs) a =
      (made-append x.0 log added ∙ ap (λ l. l ++ made_by maker x.0 added) a.0, owns-gained log added xs a.1)

  one-same : (n : ℕ) → 0 < one_if (n == n)
  one-same n = let same = eq-eqb n n refl in subst (λ b. 0 < one_if b) (sym same) (omega arith)

  -- entries of other makers change nothing
  pub owns-others : (log added : List E) (xs : List (ℕ × List E))
      → ((number : ℕ) → 0 < times number xs → made_by maker number added ≡ []) → Owns maker log xs
      → Owns maker (log ++ added) xs
  owns-others log added [] none a = tt
  owns-others log added (x ∷ xs) none a = (
    made-append x.0 log added ∙ (ap (λ l. made_by maker x.0 log ++ l) (none x.0 (let one = one-same x.0 in omega arith)) ∙ (append-nil (made_by maker x.0 log) ∙ a.0)),
    owns-others log added xs (λ number some. none number (omega arith)) a.1,
  )

  pub times-gained : (number : ℕ) (added : List E) (xs : List (ℕ × List E))
      → times number (with_gains maker added xs) ≡ times number xs
  times-gained number added [] = refl
  times-gained number added (x ∷ xs) = ap (λ k. one_if (x.0 == number) + k) (times-gained number added xs)

  pub length-gained : (added : List E) (xs : List (ℕ × List E)) → length (with_gains maker added xs) ≡ length xs
  length-gained added [] = refl
  length-gained added (x ∷ xs) = ap suc (length-gained added xs)

  -- where nobody made the entries, number 0 has them all, and no other any
  pub made-by-nobody : (log : List E) → HasNoMaker maker log → made_by maker 0 log ≡ log
  made-by-nobody [] none = refl
  made-by-nobody (e ∷ es) none =
      let first : maker e ≡ 0 = none 0 e (omega arith) in
      let rest = made-by-nobody es (λ k d lt. none (suc k) d (omega arith)) in
      subst (λ b. cond b (e ∷ made_by maker 0 es) (made_by maker 0 es) ≡ e ∷ es) (sym (eq-eqb (maker e) 0 first)) (ap (λ l. e ∷ l) rest)

  pub made-by-none : (number : ℕ) (log : List E) → 0 < number → HasNoMaker maker log → made_by maker number log ≡ []
  made-by-none number [] some none = refl
  made-by-none number (e ∷ es) some none =
      let first : maker e ≡ 0 = none 0 e (omega arith) in
      let rest = made-by-none number es some (λ k d lt. none (suc k) d (omega arith)) in
      subst (λ b. cond b (e ∷ made_by maker number es) (made_by maker number es) ≡ []) (sym (ne_eqb (maker e) number (λ same. omega arith))) rest

  pub owns-numbers : (log : List E) (low count : ℕ) → HasNoMaker maker log → Owns maker log (numbers_from low count)
  owns-numbers log low zero none = tt
  owns-numbers log low (suc count) none =
      (made-by-none (suc low) log (omega arith) none, owns-numbers log (suc low) count none)
