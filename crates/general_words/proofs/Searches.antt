-- The first answer of a list.
use Rattle.std.proofs.Common.{◌≡◌, ℕ, zero, suc, ◌+◌, ◌<◌, List, [], ◌∷◌, ◌++◌, map, take, slice_get, Option, Some, None, refl, sym, ap, ap₂, ◌∙◌, arith}
use Rattle.std.specs.Option.{option_or}
use Rattle.general_words.specs.Searches.{first_some, IsFirstAnswer}
use Rattle.general_words.proofs.Lists.{some_is, take-next}

-- no answer behind another adds nothing
pub or_none : {A : Type 0} (o : Option A) → option_or o None ≡ o
or_none None = refl
or_none (Some x) = refl

-- the first of three answers, joined either way
pub or_assoc : {A : Type 0} (a b c : Option A) → option_or (option_or a b) c ≡ option_or a (option_or b c)
or_assoc None b c = refl
or_assoc (Some x) b c = refl

pub first_some-none : {A B : Type 0} (f : A → Option B) (x : A) (xs : List A) → f x ≡ None
    → first_some f (x ∷ xs) ≡ first_some f xs
first_some-none f x xs e = ap (λ o. option_or o (first_some f xs)) e

pub first_some-some : {A B : Type 0} (f : A → Option B) (x : A) (xs : List A) (y : B) → f x ≡ Some y
    → first_some f (x ∷ xs) ≡ Some y
first_some-some f x xs y e = ap (λ o. option_or o (first_some f xs)) e

-- the first answer of two lists, one after the other
pub first_some-append : {A B : Type 0} (f : A → Option B) (xs ys : List A)
    → first_some f (xs ++ ys) ≡ option_or (first_some f xs) (first_some f ys)
first_some-append f [] ys = refl
first_some-append f (x ∷ xs) ys =
    ap (option_or (f x)) (first_some-append f xs ys) ∙ sym (or_assoc (f x) (first_some f xs) (first_some f ys))

-- where no first one of two answers is, neither is one
pub none_before : {A : Type 0} (o p : Option A) → option_or o p ≡ None → o ≡ None
none_before None p e = refl
none_before (Some x) p e = e

pub none_behind : {A : Type 0} (o p : Option A) → option_or o p ≡ None → p ≡ None
none_behind None p e = e
none_behind (Some x) p e = absurd cc

-- where there is no answer, no element has one
pub first_some-all_none : {A B : Type 0} (f : A → Option B) (xs : List A) → first_some f xs ≡ None → (i : ℕ) (x : A)
    → Some x ≡ slice_get xs i → f x ≡ None
first_some-all_none f [] e i x there = absurd cc
first_some-all_none f (y ∷ xs) e zero x there =
    let same : x ≡ y = some_is x y there in ap f same ∙ none_before (f y) (first_some f xs) e
first_some-all_none f (y ∷ xs) e (suc i) x there =
    first_some-all_none f xs (none_behind (f y) (first_some f xs) e) i x there

-- what is told of a front is told of the whole
pub first_some-front : {A B : Type 0} (f : A → Option B) (n : ℕ) (xs : List A) (b : B)
    → first_some f (take n xs) ≡ Some b → first_some f xs ≡ Some b
first_some-front f zero xs b e = absurd cc
first_some-front f (suc n) [] b e = e
first_some-front {B = B} f (suc n) (x ∷ xs) b e = by (f x) (first_some-front f n xs b) e
  where
    by : (o : Option B) → (first_some f (take n xs) ≡ Some b → first_some f xs ≡ Some b)
        → option_or o (first_some f (take n xs)) ≡ Some b → option_or o (first_some f xs) ≡ Some b
    by None rest h = rest h
    by (Some c) rest h = h

-- the first answer of a list and of one more element
pub first_some-snoc : {A B : Type 0} (f : A → Option B) (xs : List A) (x : A)
    → first_some f (xs ++ x ∷ []) ≡ option_or (first_some f xs) (f x)
first_some-snoc f xs x = first_some-append f xs (x ∷ []) ∙ ap (option_or (first_some f xs)) (or_none (f x))

-- nothing is told of the first elements: so what is told of those and the next is what is told of the next
pub first_some-next : {A B : Type 0} (f : A → Option B) (xs : List A) (i : ℕ) (x : A) {o : Option B}
    → Some x ≡ slice_get xs i → first_some f (take i xs) ≡ None → f x ≡ o → first_some f (take (i + 1) xs) ≡ o
first_some-next f xs i x there none this =
    ap (first_some f) (take-next xs i x there) ∙ first_some-snoc f (take i xs) x ∙ ap₂ option_or none this

-- and where something is told of the next, that is told of the whole
pub first_some-found : {A B : Type 0} (f : A → Option B) (xs : List A) (i : ℕ) (x : A) (b : B) → Some x ≡ slice_get xs i
    → first_some f (take i xs) ≡ None → f x ≡ Some b → first_some f xs ≡ Some b
first_some-found f xs i x b there none this = first_some-front f (i + 1) xs b (first_some-next f xs i x there none this)

-- the first of which something is told through a function
pub first_some-map : {A B C : Type 0} (f : B → Option C) (g : A → B) (xs : List A)
    → first_some f (map g xs) ≡ first_some (λ x. f (g x)) xs
first_some-map f g [] = refl
first_some-map f g (x ∷ xs) = ap (option_or (f (g x))) (first_some-map f g xs)

-- an answer of a search behind an element that has none
behind : {A B : Type 0} (f : A → Option B) (x : A) (xs : List A) (y : B) → f x ≡ None → IsFirstAnswer f xs y
    → IsFirstAnswer f (x ∷ xs) y
behind {A = A} f x xs y none rest =
    record { place = suc rest.place; element = rest.element; stands = rest.stands; is = rest.is; before = earlier }
  where
    earlier : (j : ℕ) (d : A) → j < suc rest.place → Some d ≡ slice_get (x ∷ xs) j → f d ≡ None
    earlier zero d lt there = ap f (some_is d x there) ∙ none
    earlier (suc j) d lt there = rest.before j d (omega arith) there

-- the first answer that there is comes before all others
pub first_some-IsFirstAnswer : {A B : Type 0} (f : A → Option B) (xs : List A) (y : B) → first_some f xs ≡ Some y
    → IsFirstAnswer f xs y
first_some-IsFirstAnswer f [] y e = absurd cc
first_some-IsFirstAnswer {A = A} {B = B} f (x ∷ xs) y e = elim (f x) as (λ (o : Option B). f x ≡ o → option_or o (first_some f xs) ≡ Some y → IsFirstAnswer f (x ∷ xs) y) [
  | Some z ↦ λ is h. record { place = 0; element = x; stands = refl; is = is ∙ h; before = λ j d lt there. absurd (omega arith) }
  | None ↦ λ is h. behind f x xs y is (first_some-IsFirstAnswer f xs y h)
] refl e
