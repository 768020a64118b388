-- What can be told: each fact here holds or it doesn't.
use Rattle.std.specs.Prelude.{◌≡◌, ◌≢◌, ◌⊎◌, ℕ, zero, suc, ◌<◌, ◌≤◌, Bool, true, false, List, [], ◌∷◌, length, Option, None, Some}
use Rattle.std.specs.Str.{IsUtf8, is_utf8}
use Rattle.std.specs.Cmp.{tied_itself}
use Rattle.std.specs.declared.cmp.Ordering.{Ordering}
use Rattle.std.specs.declared.cmp.Ordering.TheVariants.{Less, Equal, Greater}
use Rattle.std.proofs.Common.{refl, sym, ap, subst, ◌∙◌, arith, inl, inr}
use Rattle.std.proofs.lemmas.Bool.Decides.{leb_tells, eqb_tells}
use Rattle.std.proofs.lemmas.Str.{IsUtf8-from_is_utf8, is_utf8-from_IsUtf8}
use Rattle.model_names.specs.Name.{Name}
use Rattle.model_names.specs.Order.{name_cmp}
use Rattle.model_names.specs.Refuses.{Refusal, refusal_of}
use Rattle.model_names.specs.Spells.{Spells}
use Rattle.model_names.proofs.OrderLemmas.{name_cmp_total, name_cmp-IsAntisymmetric}
use Rattle.model_names.proofs.RefusesLemmas.{refusal_of-spelled, Spells-from_no_refusal}
use Rattle.model_maps.specs.Entry.{IsValue, IsMetaName, longest_value, longest_meta_name}
use Rattle.general_words.proofs.Lists.{none_is_no_some}

-- a fact holds or it doesn't
abbrev pub IsTold : Type 0 → Type 0
IsTold Fact = Fact ⊎ (Fact → ⊥)

-- a fact is told by another that goes with it
pub told-along : {P Q : Type 0} → (P → Q) → (Q → P) → IsTold P → IsTold Q
told-along to from (inl p) = inl (to p)
told-along to from (inr fails) = inr (λ q. fails (from q))

pub le-told : (m n : ℕ) → IsTold (m ≤ n)
le-told m n =
    elim (leb_tells m n) as (λ _. IsTold (m ≤ n)) [ inl le ↦ inl le.1 | inr greater ↦ inr (λ le. let less = greater.1 in omega arith) ]

pub equal-told : (m n : ℕ) → IsTold (m ≡ n)
equal-told m n = elim (eqb_tells m n) as (λ _. IsTold (m ≡ n)) [ inl same ↦ inl same.1 | inr other ↦ inr other.1 ]

clash : (b : Bool) → b ≡ false → b ≡ true → ⊥
clash b fails holds = let both = sym fails ∙ holds in absurd cc

pub utf8-told : (bytes : List ℕ) → IsTold (IsUtf8 bytes)
utf8-told bytes = by (is_utf8 bytes) refl
  where
    by : (b : Bool) → is_utf8 bytes ≡ b → IsTold (IsUtf8 bytes)
    by true e = inl (IsUtf8-from_is_utf8 bytes e)
    by false e = inr (λ utf8. clash (is_utf8 bytes) e (is_utf8-from_IsUtf8 bytes utf8))

pub value-told : (text : List ℕ) → IsTold (IsValue text)
value-told text = elim (utf8-told text) as (λ _. IsTold (IsValue text)) [
  | inl utf8 ↦ told-along (λ short. record { utf8 = utf8; limit = short }) (λ (v : IsValue text). v.limit) (le-told (length text) longest_value)
  | inr fails ↦ inr (λ (v : IsValue text). fails v.utf8)
]

pub meta_name-told : (name : List ℕ) → IsTold (IsMetaName name)
meta_name-told name = elim (utf8-told name) as (λ _. IsTold (IsMetaName name)) [
  | inl utf8 ↦ elim (le-told 1 (length name)) as (λ _. IsTold (IsMetaName name)) [
    | inl some ↦ told-along (λ short. record { utf8 = utf8; some = some; limit = short }) (λ (n : IsMetaName name). n.limit) (le-told (length name) longest_meta_name)
    | inr none ↦ inr (λ (n : IsMetaName name). none n.some)
  ]
  | inr fails ↦ inr (λ (n : IsMetaName name). fails n.utf8)
]

-- a text spells a name or none
pub spells-told : (text : List ℕ) → IsTold ((name : Name) × Spells text name)
spells-told text = elim (utf8-told text) as (λ _. IsTold ((name : Name) × Spells text name)) [
  | inl utf8 ↦ by utf8 (refusal_of text) refl
  | inr fails ↦ inr (λ found. fails found.1.utf8)
]
  where
    by : IsUtf8 text → (o : Option Refusal) → refusal_of text ≡ o → IsTold ((name : Name) × Spells text name)
    by utf8 None e = inl (Spells-from_no_refusal text utf8 e)
    by utf8 (Some refusal) e =
        inr (λ found. none_is_no_some refusal (sym (sym e ∙ refusal_of-spelled text found.0 found.1)))

-- an option is none, or there is something in it
pub option-told : {A : Type 0} (o : Option A) → (o ≡ None) ⊎ ((x : A) × (o ≡ Some x))
option-told None = inl refl
option-told (Some x) = inr (x, refl)

pub names-told : (a b : Name) → IsTold (a ≡ b)
names-told a b = by (name_cmp a b) refl
  where
    differ : (r : Ordering) → name_cmp a b ≡ r → (r ≡ Equal → ⊥) → a ≡ b → ⊥
    differ r e other same = other (sym e ∙ ap (name_cmp a) (sym same) ∙ tied_itself name_cmp_total a)

    by : (r : Ordering) → name_cmp a b ≡ r → IsTold (a ≡ b)
    by Less e = inr (differ Less e (λ f. absurd cc))
    by Equal e = inl (name_cmp-IsAntisymmetric a b e)
    by Greater e = inr (differ Greater e (λ f. absurd cc))

pub texts-told : (a b : List ℕ) → IsTold (a ≡ b)
texts-told [] [] = inl refl
texts-told [] (y ∷ b) = inr (λ e. absurd cc)
texts-told (x ∷ a) [] = inr (λ e. absurd cc)
texts-told (x ∷ a) (y ∷ b) = elim (equal-told x y) as (λ _. IsTold (x ∷ a ≡ y ∷ b)) [
  | inl same ↦ told-along (λ rest. λ i. same i ∷ rest i) (λ e. cc) (texts-told a b)
  | inr other ↦ inr (λ e. other cc)
]

-- a list has an element, or none
pub some-told : {A : Type 0} (xs : List A) → IsTold (xs ≢ [])
some-told [] = inr (λ h. h refl)
some-told (x ∷ xs) = inl (λ e. absurd cc)

-- some number below a bound has a property, or none
pub below-told : (Has : ℕ → Type 0) → ((n : ℕ) → IsTold (Has n)) → (bound : ℕ) → IsTold ((n : ℕ) × (n < bound) × Has n)
below-told Has told zero = inr (λ found. absurd (omega (arith, found.1)))
below-told Has told (suc bound) = elim (told bound) as (λ _. IsTold ((n : ℕ) × (n < suc bound) × Has n)) [
  | inl has ↦ inl (bound, omega arith, has)
  | inr fails ↦ told-along
      (λ found. let less : found.0 < bound = found.1 in (found.0, omega arith, found.2))
      (λ found. elim (equal-told found.0 bound) as (λ _. (n : ℕ) × (n < bound) × Has n) [
        | inl same ↦ absurd (fails (subst Has same found.2))
        | inr other ↦ let less : found.0 < suc bound = found.1 in (found.0, omega (arith, other), found.2)
      ])
      (below-told Has told bound)
]
