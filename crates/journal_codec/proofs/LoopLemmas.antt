-- Reading items one behind the other, as a loop does.
use Rattle.std.proofs.Common.{◌≡◌, ℕ, zero, suc, ◌-◌, ◌+◌, ◌≤◌, ◌<◌, List, [], ◌∷◌, ◌++◌, length, slice_get, Some, Ok, Err, refl, sym, ap, ◌∙◌, append_assoc, arith}
use Rattle.std.proofs.lemmas.List.{append-nil}
use Rattle.std.proofs.lemmas.Option.{slice_get_within}
use Rattle.journal_codec.specs.declared.faults.Stop.{Stop}
use Rattle.journal_codec.specs.declared.faults.Stop.TheVariants as stops
use Rattle.journal_codec.specs.Reading.{Field, ◌>>=◌, items_at}
use Rattle.journal_codec.specs.Stops.{IsStopOf, last_name}
use Rattle.journal_codec.proofs.ItemLemmas.{Reader}

pub last_name-append : {A : Type 0} (name_in : A → List ℕ) (items : List A) (x : A)
    → last_name name_in (items ++ x ∷ []) ≡ name_in x
last_name-append name_in [] x = refl
last_name-append name_in (y ∷ []) x = refl
last_name-append name_in (y ∷ (z ∷ items)) x = last_name-append name_in (z ∷ items) x

pub last_name-at : {A : Type 0} (name_in : A → List ℕ) (items : List A) (n : ℕ) (x : A) → n + 1 ≡ length items
    → slice_get items n ≡ Some x → last_name name_in items ≡ name_in x
last_name-at name_in [] n x l e = absurd cc
last_name-at name_in (y ∷ []) zero x l e = let same : y ≡ x = cc in ap name_in same
last_name-at name_in (y ∷ []) (suc n) x l e = absurd cc
last_name-at name_in (y ∷ (z ∷ items)) zero x l e = absurd (omega arith)
last_name-at name_in (y ∷ (z ∷ items)) (suc n) x l e = last_name-at name_in (z ∷ items) n x (omega arith) e

pub last_name-of_last : {A : Type 0} (name_in : A → List ℕ) (items : List A) (x : A)
    → slice_get items (length items - 1) ≡ Some x → last_name name_in items ≡ name_in x
last_name-of_last name_in items x e =
    last_name-at name_in items (length items - 1) x (omega (arith, slice_get_within items (length items - 1) x e)) e

-- what was read before, and what is still read
abbrev pub with_front : {A : Type 0} → List A → Field (List A) → Field (List A)
with_front front read = read >>= λ x. Ok (front ++ x.0, x.1)

regroup : {A : Type 0} (front : List A) (x : A) (read : Field (List A))
    → with_front front (read >>= λ y. Ok (x ∷ y.0, y.1)) ≡ with_front (front ++ x ∷ []) read
regroup {A} front x (Ok y) = ap (λ (items : List A). Ok (items, y.1)) (sym (append_assoc front (x ∷ []) y.0))
regroup front x (Err left) = refl

-- the loop's state: the items that were read, how many are left, and the bytes behind
pub record IsOn {A : Type 0} (item_at : Reader A) (name_in : A → List ℕ) (front : List A) (count i : ℕ) (bytes : List ℕ) (total : Field (List A)) : Type 0 where
  pub is : with_front front (items_at item_at name_in (count - i) (last_name name_in front) bytes) ≡ total

pub goes_on : {A : Type 0} (item_at : Reader A) (name_in : A → List ℕ) (front : List A) (count i : ℕ)
    (previous bytes : List ℕ) (x : A) (after : List ℕ) (total : Field (List A)) → i < count
    → previous ≡ last_name name_in front → item_at previous bytes ≡ Ok (x, after)
    → IsOn item_at name_in front count i bytes total → IsOn item_at name_in (front ++ x ∷ []) count (i + 1) after total
goes_on item_at name_in front count i previous bytes x after total lt p h so_far =
    let k : count - i ≡ suc (count - (i + 1)) = omega arith in
    let one : with_front front (items_at item_at name_in (count - i) (last_name name_in front) bytes) ≡ with_front (front ++ x ∷ []) (items_at item_at name_in (count - (i + 1)) (name_in x) after) = rw (k, ← p, h) (regroup front x (items_at item_at name_in (count - (i + 1)) (name_in x) after)) in
    record { is = rw (last_name-append name_in front x) (sym one ∙ so_far.is) }

pub ends : {A : Type 0} (item_at : Reader A) (name_in : A → List ℕ) (stop : Stop) (front : List A) (count i : ℕ)
    (previous bytes : List ℕ) (total : Field (List A)) → i < count → previous ≡ last_name name_in front
    → IsStopOf (item_at previous bytes) stop
    → IsOn item_at name_in front count i bytes total → IsStopOf total stop
ends item_at name_in stops.Memory front count i previous bytes total lt p h so_far = λ other. absurd (other refl)
ends item_at name_in (stops.Before left) front count i previous bytes total lt p h so_far = λ other.
    let k : count - i ≡ suc (count - (i + 1)) = omega arith in
    let one : with_front front (items_at item_at name_in (count - i) (last_name name_in front) bytes) ≡ Err left = rw (k, ← p, h other) refl in
    sym so_far.is ∙ one

pub is_done : {A : Type 0} (item_at : Reader A) (name_in : A → List ℕ) (front : List A) (count i : ℕ) (bytes : List ℕ)
    (total : Field (List A)) → count ≤ i → IsOn item_at name_in front count i bytes total → total ≡ Ok (front, bytes)
is_done {A} item_at name_in front count i bytes total le so_far =
    let k : count - i ≡ 0 = omega arith in
    let one : with_front front (items_at item_at name_in (count - i) (last_name name_in front) bytes) ≡ Ok (front, bytes) = rw k (ap (λ (items : List A). Ok (items, bytes)) (append-nil front)) in
    sym so_far.is ∙ one
