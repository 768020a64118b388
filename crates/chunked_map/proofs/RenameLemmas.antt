-- Entries whose keys are turned into others.
use Rattle.std.proofs.Common.{◌≡◌, ℕ, zero, suc, ◌<◌, Bool, T, List, [], ◌∷◌, ◌++◌, length, take, drop, get_or, set, map, refl, sym, ap, ◌∙◌, subst, arith}
use Rattle.std.specs.List.{AllByRecursion}
use Rattle.std.specs.FinMap.{is_sorted}
use Rattle.std.specs.FinMap.Entries.{below_all}
use Rattle.std.specs.declared.cmp.Ordering.{Ordering}
use Rattle.std.specs.declared.cmp.Ordering.TheVariants.{Less}
use Rattle.std.proofs.lemmas.List.{map-append, length-map}
use Rattle.general_words.proofs.Lists.{all_back}
use Rattle.general_words.proofs.Tests.{both, first, second}
use Rattle.general_words.proofs.Orders.{less, is_less}
use Rattle.chunked_map.specs.Chunks.{joined, AreChunks, IsSized}

-- an entry under another key
abbrev pub with_other : {K X : Type 0} → (K → K) → K × X → K × X
with_other f e = (f e.0, e.1)

-- what a test says of an entry's key
abbrev pub of_key : {K X : Type 0} → (K → Bool) → K × X → Bool
of_key p e = p e.0

module _ {A : Type 0} (f : A → A) where
  -- a list whose first elements are turned
  abbrev pub turned_front : ℕ → List A → List A
  turned_front i xs = map f (take i xs) ++ drop i xs

  -- the next element is as it was
  pub front-at : (xs : List A) (i : ℕ) (d : A) → i < length xs → get_or (turned_front i xs) i d ≡ get_or xs i d
  front-at [] i d lt = absurd (omega arith)
  front-at (x ∷ xs) zero d lt = refl
  front-at (x ∷ xs) (suc i) d lt = front-at xs i d (omega arith)

  front-set : (xs : List A) (i : ℕ) (d : A) → i < length xs
      → set (turned_front i xs) i (f (get_or (turned_front i xs) i d)) ≡ turned_front (suc i) xs
  front-set [] i d lt = absurd (omega arith)
  front-set (x ∷ xs) zero d lt = refl
  front-set (x ∷ xs) (suc i) d lt = ap (λ ys. f x ∷ ys) (front-set xs i d (omega arith))

  -- and is turned in its place
  pub front-next : (xs now : List A) (i n : ℕ) (d y : A) → i < length xs → n ≡ suc i → now ≡ turned_front i xs
      → y ≡ f (get_or now i d) → set now i y ≡ turned_front n xs
  front-next xs now i n d y lt next is new =
      ap (set now i) new
      ∙ ap (λ ys. set ys i (f (get_or ys i d))) is
      ∙ front-set xs i d lt
      ∙ ap (λ m. turned_front m xs) (sym next)

  -- what was written back in the place of a whole list
  front-of : (xs ys : List A) → take (length xs) (xs ++ ys) ≡ xs
  front-of [] ys = refl
  front-of (x ∷ xs) ys = ap (λ zs. x ∷ zs) (front-of xs ys)

  pub written-back : (n : ℕ) (xs ys : List A) → n ≡ length xs → take n (xs ++ ys) ≡ xs
  written-back n xs ys e = ap (λ m. take m (xs ++ ys)) e ∙ front-of xs ys

  pub joined-turned : (cs : List (List A)) → joined (map (map f) cs) ≡ map f (joined cs)
  joined-turned [] = refl
  joined-turned (c ∷ cs) = ap (λ es. map f c ++ es) (joined-turned cs) ∙ sym (map-append f c (joined cs))

  sized-turned : (cs : List (List A)) → AllByRecursion IsSized cs → AllByRecursion IsSized (map (map f) cs)
  sized-turned [] h = tt
  sized-turned (c ∷ cs) h =
      let len = length-map c f in
      let some = h.0.some in
      let few = h.0.few in
      (record { some = omega arith; few = omega arith }, sized-turned cs h.1)

module _ {K X : Type 0} (R : K → K → Ordering) (f : K → K) (takes : K → Type 0) (keeps : (x y : K) → takes x → takes y → R x y ≡ Less → R (f x) (f y) ≡ Less) where
  below-turned : (q : K) (es : List (K × X)) → takes q → AllByRecursion (λ (e : K × X). takes e.0) es
      → T (below_all R q es) → T (below_all R (f q) (map (with_other f) es))
  below-turned q [] t ts h = tt
  below-turned q (e ∷ es) t ts h =
      both _ _ (is_less _ (keeps q e.0 t ts.0 (less _ (first _ _ h)))) (below-turned q es t ts.1 (second _ _ h))

  pub sorted-turned : (es : List (K × X)) → AllByRecursion (λ (e : K × X). takes e.0) es → T (is_sorted R es)
      → T (is_sorted R (map (with_other f) es))
  sorted-turned [] ts h = tt
  sorted-turned (e ∷ es) ts h =
      both _ _ (below-turned e.0 es ts.0 ts.1 (first _ _ h)) (sorted-turned es ts.1 (second _ _ h))

  pub chunks-turned : (cs : List (List (K × X))) → AllByRecursion (λ (e : K × X). takes e.0) (joined cs)
      → AreChunks R cs → AreChunks R (map (map (with_other f)) cs)
  chunks-turned cs ts are =
      let count = are.count in
      let same = length-map cs (map (with_other f)) in
      record {
        sorted = subst (λ es. T (is_sorted R es)) (sym (joined-turned (with_other f) cs)) (sorted-turned (joined cs) ts are.sorted);
        sizes = sized-turned (with_other f) cs are.sizes;
        count = omega arith;
      }

  -- what is taken of the first chunk, and of the others
  pub taken-first : (c : List (K × X)) (cs : List (List (K × X)))
      → AllByRecursion (λ (e : K × X). takes e.0) (joined (c ∷ cs)) → AllByRecursion (λ (e : K × X). takes e.0) c
  taken-first [] cs h = tt
  taken-first (e ∷ c) cs h = (h.0, taken-first c cs h.1)

  pub taken-rest : (c : List (K × X)) (cs : List (List (K × X)))
      → AllByRecursion (λ (e : K × X). takes e.0) (joined (c ∷ cs))
      → AllByRecursion (λ (e : K × X). takes e.0) (joined cs)
  taken-rest c cs h = all_back (λ (e : K × X). takes e.0) c (joined cs) h
