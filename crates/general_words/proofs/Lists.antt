-- Lists and options: one more of a list's elements behind those before it, and what stands first or nowhere.
use Rattle.std.proofs.Common.{◌≡◌, ℕ, zero, suc, ◌+◌, ◌<◌, List, [], ◌∷◌, ◌++◌, length, get_or, take, drop, slice_get, Option, None, Some, is_some, map, false, refl, sym, ap, ◌∙◌, arith, append-nil, append_assoc}
use Rattle.std.specs.List.{AllByRecursion, flat_map}
use Rattle.std.proofs.lemmas.List.{take_more, take-append-drop, drop_more}
use Rattle.std.proofs.lemmas.List.Concat.{flat_map-append}
use Rattle.std.proofs.lemmas.Option.{slice_get_within, get_or_from_slice_get}

-- what two present values hold is one, where they are
pub some_is : {A : Type 0} (a b : A) → ◌≡◌ {A = Option A} (Some a) (Some b) → a ≡ b
some_is a b e = cc

pub none_is_no_some : {A : Type 0} (x : A) → ◌≡◌ {A = Option A} None (Some x) → ⊥
none_is_no_some x e = absurd cc

-- what a test doesn't find is not there
pub none_by_test : {A : Type 0} (o : Option A) → is_some o ≡ false → o ≡ None
none_by_test None e = refl
none_by_test (Some x) e = absurd cc

-- nothing is there and is not
pub not_both : {A : Type 0} {o : Option A} (a : A) → o ≡ None → o ≡ Some a → ⊥
not_both a p q = cc

-- what one place holds is one
pub found_once : {A : Type 0} {o : Option A} (a b : A) → o ≡ Some a → o ≡ Some b → a ≡ b
found_once a b p q = cc

-- of two lists that are one the first elements are one
pub head_is : {A : Type 0} (a b : A) (xs ys : List A) → a ∷ xs ≡ b ∷ ys → a ≡ b
head_is a b xs ys e = cc

-- and the rest is one
pub tail_is : {A : Type 0} (a b : A) (xs ys : List A) → a ∷ xs ≡ b ∷ ys → xs ≡ ys
tail_is a b xs ys e = cc

-- a list with no first element is empty
pub no_first : {A : Type 0} (xs : List A) → None ≡ slice_get xs 0 → xs ≡ []
no_first [] e = refl
no_first (x ∷ xs) e = absurd cc

-- what holds of each element of two lists holds of each of both together
pub all_append : {A : Type 0} (P : A → Type 0) (xs ys : List A) → AllByRecursion P xs → AllByRecursion P ys
    → AllByRecursion P (xs ++ ys)
all_append P [] ys p q = q
all_append P (x ∷ xs) ys p q = (p.0, all_append P xs ys p.1 q)

pub all_back : {A : Type 0} (P : A → Type 0) (xs ys : List A) → AllByRecursion P (xs ++ ys) → AllByRecursion P ys
all_back P [] ys h = h
all_back P (x ∷ xs) ys h = all_back P xs ys h.1

pub all_map : {A B : Type 0} (P : B → Type 0) (f : A → B) (xs : List A) → AllByRecursion (λ x. P (f x)) xs
    → AllByRecursion P (map f xs)
all_map P f [] h = tt
all_map P f (x ∷ xs) h = (h.0, all_map P f xs h.1)

-- an element that was read stands at its place
pub at_place : {A : Type 0} (xs : List A) (i : ℕ) (x : A) → i < length xs → x ≡ get_or xs i x → Some x ≡ slice_get xs i
at_place [] i x lt is = absurd (omega arith)
at_place (y ∷ xs) zero x lt is = ap Some is
at_place (y ∷ xs) (suc i) x lt is = at_place xs i x (omega arith) is

-- what stands at a place does not depend on what would be read where nothing is
pub same_default : {A : Type 0} (xs : List A) (i : ℕ) (d e : A) → i < length xs → get_or xs i d ≡ get_or xs i e
same_default [] i d e lt = absurd (omega arith)
same_default (x ∷ xs) zero d e lt = refl
same_default (x ∷ xs) (suc i) d e lt = same_default xs i d e (omega arith)

-- one more element of a list
pub take-next : {A : Type 0} (xs : List A) (i : ℕ) (x : A) → Some x ≡ slice_get xs i
    → take (i + 1) xs ≡ take i xs ++ x ∷ []
take-next xs i x found =
    take_more xs i x (slice_get_within xs i x (sym found))
    ∙ ap (λ y. take i xs ++ y ∷ []) (get_or_from_slice_get xs i x x (sym found))

-- a list is what stands before one of its elements, that element, and what stands behind it
pub cut-next : {A : Type 0} (xs : List A) (i : ℕ) (x : A) → Some x ≡ slice_get xs i
    → xs ≡ take i xs ++ x ∷ drop (i + 1) xs
cut-next xs i x found =
    sym (take-append-drop i xs)
    ∙ ap (λ rest. take i xs ++ rest) (drop_more xs i x (slice_get_within xs i x (sym found)) ∙ ap (λ y. y ∷ drop (i + 1) xs) (get_or_from_slice_get xs i x x (sym found)))

-- what was appended twice
pub appended : {A : Type 0} (before middle after xs ys : List A) → middle ≡ before ++ xs → after ≡ middle ++ ys
    → after ≡ before ++ (xs ++ ys)
appended before middle after xs ys p q = q ∙ ap (λ zs. zs ++ ys) p ∙ append_assoc before xs ys

-- what was appended four times
pub appended_four : {A : Type 0} (l0 l1 l2 l3 l4 a b c d : List A) → l1 ≡ l0 ++ a → l2 ≡ l1 ++ b → l3 ≡ l2 ++ c
    → l4 ≡ l3 ++ d → l4 ≡ l0 ++ (a ++ (b ++ (c ++ d)))
appended_four l0 l1 l2 l3 l4 a b c d e1 e2 e3 e4 =
    appended l2 l3 l4 c d e3 e4 ∙ ap (λ l. l ++ (c ++ d)) (appended l0 l1 l2 a b e1 e2)
    ∙ append_assoc l0 (a ++ b) (c ++ d)
    ∙ ap (λ l. l0 ++ l) (append_assoc a b (c ++ d))

-- what one more element adds to the lists that elements stand for
pub flat_map-more : {A B : Type 0} (f : A → List B) (xs : List A) (i : ℕ) (x : A) → Some x ≡ slice_get xs i
    → flat_map f (take (i + 1) xs) ≡ flat_map f (take i xs) ++ f x
flat_map-more f xs i x found =
    ap (flat_map f) (take-next xs i x found)
    ∙ flat_map-append f (take i xs) (x ∷ [])
    ∙ ap (λ ys. flat_map f (take i xs) ++ ys) (append-nil (f x))

-- a property of all places of a list is one of all its elements
pub all_from_places : {A : Type 0} (P : A → Type 0) (xs : List A) → ((i : ℕ) (x : A) → Some x ≡ slice_get xs i → P x)
    → AllByRecursion P xs
all_from_places P [] each = tt
all_from_places P (x ∷ xs) each = (each 0 x refl, all_from_places P xs (λ i y there. each (suc i) y there))
