-- What a search from the front of a list gives.
use Rattle.std.specs.Prelude.{◌≡◌, ℕ, ◌<◌, List, [], ◌∷◌, slice_get, Option, Some, None}
use Rattle.std.specs.Option.{option_or}

-- the first answer that there is
abbrev pub first_some : {A B : Type 0} → (A → Option B) → List A → Option B
first_some f [] = None
first_some f (x ∷ xs) = option_or (f x) (first_some f xs)

-- an answer is that of an element before which none has one
pub record IsFirstAnswer {A B : Type 0} (f : A → Option B) (xs : List A) (answer : B) : Type 0 where
  pub place : ℕ
  pub element : A
  pub stands : Some element ≡ slice_get xs place
  pub is : f element ≡ Some answer
  pub before : (j : ℕ) (x : A) → j < place → Some x ≡ slice_get xs j → f x ≡ None
