-- What a field that was read took from the front of the bytes, and that a field that is spelled is read again.
use Rattle.std.proofs.Common.{◌≡◌, ℕ, ◌+◌, ◌^◌, ◌<◌, ◌≤◌, Bool, true, false, ◌&&◌, leb, List, [], ◌∷◌, ◌++◌, length, get_or, take, drop, All, Result, Ok, Err, refl, sym, ap, subst, ◌∙◌, arith, inl, inr}
use Rattle.std.proofs.lemmas.Bool.{cases_lt, leb-true, le-leb, and_parts}
use Rattle.std.proofs.lemmas.List.{take_at, drop_at, take-append-drop, length-append, length-take, length-take-le, get_or-take, get_or-append-add, get_or_past}
use Rattle.std.proofs.lemmas.Nat.{le_bytes_4, from_le_bytes-to_le_bytes_4}
use Rattle.journal_codec.specs.Entry.{length_bytes, number_of}
use Rattle.journal_codec.specs.Reading.{◌>>=◌, checked, byte_at, number_at, bytes_at}

-- each number of a list is a byte
abbrev pub IsBytes : List ℕ → Type 0
IsBytes bytes = (i : ℕ) → get_or bytes i 0 < 256

pub IsBytes-from_All : (bytes : List ℕ) → All (λ b. b < 256) bytes → IsBytes bytes
IsBytes-from_All bytes all i =
    elim (cases_lt i (length bytes)) [
      | inl lt ↦ all i 0 lt
      | inr le ↦ rw (get_or_past bytes i 0 le) (omega arith)
    ]

IsBytes-take : (n : ℕ) (bytes : List ℕ) → IsBytes bytes → IsBytes (take n bytes)
IsBytes-take n bytes h i =
    elim (cases_lt i n) [
      | inl lt ↦ rw (get_or-take n bytes i 0 lt) (h i)
      | inr le ↦ rw (get_or_past (take n bytes) i 0 (omega (arith, length-take n bytes))) (omega arith)
    ]

-- the bytes behind a front
pub IsBytes-behind : (front rest : List ℕ) → IsBytes (front ++ rest) → IsBytes rest
IsBytes-behind front rest h i = rw (← get_or-append-add front rest i 0) (h (length front + i))

-- the value of a step that didn't fail
pub bind_ok : {A B : Type 0} (r : Result A ℕ) (f : A → Result B ℕ) (y : B) → (r >>= f) ≡ Ok y
    → (x : A) × (r ≡ Ok x) × (f x ≡ Ok y)
bind_ok (Ok x) f y e = (x, refl, e)
bind_ok (Err left) f y e = absurd cc

-- a step that succeeds hands its value on
pub bind_is : {A B : Type 0} (r : Result A ℕ) (f : A → Result B ℕ) (x : A) (y : Result B ℕ) → r ≡ Ok x → f x ≡ y
    → (r >>= f) ≡ y
bind_is r f x y e d = rw e d

abbrev done : {A : Type 0} → A → Result A ℕ
done x = Ok x

pub ok_is : {A : Type 0} (x y : A) → done x ≡ done y → x ≡ y
ok_is x y e = cc

-- a field that was read keeps its rule
pub checked_ok : {A : Type 0} (is_good : Bool) (bytes : List ℕ) (field x : A × List ℕ)
    → checked is_good bytes field ≡ Ok x → (is_good ≡ true) × (field ≡ x)
checked_ok true bytes field x e = (refl, ok_is field x e)
checked_ok false bytes field x e = absurd cc

-- a byte
pub byte_takes : (bytes : List ℕ) (x : ℕ × List ℕ) → byte_at bytes ≡ Ok x → bytes ≡ x.0 ∷ x.1
byte_takes [] x e = absurd cc
byte_takes (b ∷ rest) x e = ap (λ (p : ℕ × List ℕ). p.0 ∷ p.1) (ok_is (b, rest) x e)

-- bytes begin with what stands at their front
from_front : (front bytes : List ℕ) → front ≡ take 4 bytes → bytes ≡ front ++ drop 4 bytes
from_front front bytes e = rw e (sym (take-append-drop 4 bytes))

-- the four bytes of a length
pub number_takes : (bytes : List ℕ) (x : ℕ × List ℕ) → IsBytes bytes → number_at bytes ≡ Ok x
    → bytes ≡ length_bytes x.0 ++ x.1
number_takes bytes x is_bytes e =
    let c = checked_ok (leb 4 (length bytes)) bytes (number_of (take 4 bytes), drop 4 bytes) x e in
    let long : 4 ≤ length bytes = leb-true 4 (length bytes) c.0 in
    let front : length_bytes (number_of (take 4 bytes)) ≡ take 4 bytes = le_bytes_4 (take 4 bytes) (number_of (take 4 bytes)) (length-take-le 4 bytes long) (IsBytes-take 4 bytes is_bytes) refl in
    from_front (length_bytes (number_of (take 4 bytes))) bytes front
    ∙ ap (λ (p : ℕ × List ℕ). length_bytes p.0 ++ p.1) c.1

-- four bytes are read as the number that they are
number_in_front : (front rest : List ℕ) (n : ℕ) → length front ≡ 4 → number_of front ≡ n
    → number_at (front ++ rest) ≡ Ok (n, rest)
number_in_front front rest n four e =
    let long : leb 4 (length (front ++ rest)) ≡ true = le-leb 4 (length (front ++ rest)) (omega (arith, length-append front rest)) in
    let read : number_at (front ++ rest) ≡ Ok (number_of (take 4 (front ++ rest)), drop 4 (front ++ rest)) = rw long refl in
    let cut : number_of (take 4 (front ++ rest)) ≡ n = ap number_of (take_at front rest 4 four) ∙ e in
    read ∙ ap (λ (m : ℕ). Ok (m, drop 4 (front ++ rest))) cut
    ∙ ap (λ (left : List ℕ). Ok (n, left)) (drop_at front rest 4 four)

pub number_again : (n : ℕ) (rest : List ℕ) → n < 2 ^ 32 → number_at (length_bytes n ++ rest) ≡ Ok (n, rest)
number_again n rest lt = number_in_front (length_bytes n) rest n refl (from_le_bytes-to_le_bytes_4 n lt)

-- so many bytes that keep a rule
pub record TakesBytes (rule : List ℕ → Bool) (size : ℕ) (bytes text rest : List ℕ) : Type 0 where
  pub parts : bytes ≡ text ++ rest
  pub count : length text ≡ size
  pub good : rule text ≡ true

pub bytes_takes : (rule : List ℕ → Bool) (size : ℕ) (bytes : List ℕ) (x : List ℕ × List ℕ)
    → bytes_at rule size bytes ≡ Ok x → TakesBytes rule size bytes x.0 x.1
bytes_takes rule size bytes x e =
    let c = checked_ok (leb size (length bytes) && rule (take size bytes)) bytes (take size bytes, drop size bytes) x e in
    let both = and_parts (leb size (length bytes)) (rule (take size bytes)) c.0 in
    let taken : TakesBytes rule size bytes (take size bytes) (drop size bytes) = record {
      parts = sym (take-append-drop size bytes);
      count = length-take-le size bytes (leb-true size (length bytes) both.0);
      good = both.1;
    } in
    subst (λ (p : List ℕ × List ℕ). TakesBytes rule size bytes p.0 p.1) c.1 taken

pub bytes_again : (rule : List ℕ → Bool) (text rest : List ℕ) → rule text ≡ true
    → bytes_at rule (length text) (text ++ rest) ≡ Ok (text, rest)
bytes_again rule text rest good =
    let long : leb (length text) (length (text ++ rest)) ≡ true = le-leb (length text) (length (text ++ rest)) (omega (arith, length-append text rest)) in
    rw (long, take_at text rest (length text) refl, drop_at text rest (length text) refl, good) refl
