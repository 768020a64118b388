-- What can be told: each condition that the line of a file or a key of a map must meet holds or doesn't.
pub use Rattle.model_formats.proofs.Telling.{IsTold, le-told, some-told, texts-told, utf8-told, value-told}
use Rattle.std.specs.Prelude.{◌≡◌, ◌⊎◌, ℕ, ◌<◌, Bool, true, false, List, [], ◌∷◌, length, Option, Some, None}
use Rattle.std.proofs.Common.{refl, sym, ap, ◌∙◌, inl, inr}
use Rattle.std.specs.FinMap as finite
use Rattle.std.specs.List.{AllByRecursion}
use Rattle.std.specs.Str.{IsUtf8}
use Rattle.std.proofs.lemmas.Bool.{true≢false}
use Rattle.model_names.specs.ArrayPart.{is_array_like, is_canonical}
use Rattle.model_names.specs.Name.{Part, Name}
use Rattle.model_names.specs.Refuses.{Refusal, refusal_of}
use Rattle.model_names.specs.Spelling.{path}
use Rattle.model_names.specs.Spells.{Spells, longest_path}
use Rattle.model_names.specs.WellFormed.{IsPart, IsName}
use Rattle.model_names.proofs.RefusesLemmas.{refusal_of-spelled, Spells-from_no_refusal}
use Rattle.model_maps.specs.Entry.{Meta}

-- some value has a property, or none does
abbrev pub IsFound : {A : Type 0} → (A → Type 0) → Type 0
IsFound {A} P = ((x : A) × P x) ⊎ ((x : A) → P x → ⊥)

pub both-told : {P Q : Type 0} → IsTold P → IsTold Q → IsTold (P × Q)
both-told (inl p) (inl q) = inl (p, q)
both-told (inl p) (inr no_q) = inr (λ h. no_q h.1)
both-told (inr no_p) q = inr (λ h. no_p h.0)

pub either-told : {P Q : Type 0} → IsTold P → IsTold Q → IsTold (P ⊎ Q)
either-told (inl p) q = inl (inl p)
either-told (inr no_p) (inl q) = inl (inr q)
either-told (inr no_p) (inr no_q) = inr (λ h. elim h [ inl p ↦ no_p p | inr q ↦ no_q q ])

pub true-told : (b : Bool) → IsTold (b ≡ true)
true-told true = inl refl
true-told false = inr (λ e. true≢false (sym e))

pub none-told : {A : Type 0} (o : Option A) → IsTold (o ≡ None)
none-told None = inl refl
none-told (Some x) = inr (λ e. absurd cc)

pub lists-told : {A : Type 0} → ((x y : A) → IsTold (x ≡ y)) → (xs ys : List A) → IsTold (xs ≡ ys)
lists-told told [] [] = inl refl
lists-told told [] (y ∷ ys) = inr (λ e. absurd cc)
lists-told told (x ∷ xs) [] = inr (λ e. absurd cc)
lists-told told (x ∷ xs) (y ∷ ys) =
    elim (told x y) [
      | inl head ↦ elim (lists-told told xs ys) [ inl tail ↦ inl cc | inr other ↦ inr (λ e. other cc) ]
      | inr other ↦ inr (λ e. other cc)
    ]

pub all-told : {A : Type 0} (P : A → Type 0) → ((x : A) → IsTold (P x)) → (xs : List A) → IsTold (AllByRecursion P xs)
all-told P told [] = inl tt
all-told P told (x ∷ xs) = both-told (told x) (all-told P told xs)

-- some name is spelled by a text, or none is
pub spelled-told : (text : List ℕ) → IsFound (Spells text)
spelled-told text =
    elim (utf8-told text) [
      | inl utf8 ↦ by_refusal utf8 (refusal_of text) refl
      | inr bad ↦ inr (λ name h. bad h.utf8)
    ]
  where
    by_refusal : IsUtf8 text → (r : Option Refusal) → refusal_of text ≡ r → IsFound (Spells text)
    by_refusal utf8 None e = inl (Spells-from_no_refusal text utf8 e)
    by_refusal utf8 (Some r) e =
        inr (λ name h. let none : ◌≡◌ {A = Option Refusal} (Some r) None = sym e ∙ refusal_of-spelled text name h in absurd cc)

part-told : (part : Part) → IsTold (IsPart part)
part-told part =
    elim (both-told (utf8-told part) (both-told (all-told (λ b. 0 < b) (λ b. le-told 1 b) part) canonical-told)) [
      | inl h ↦ inl (record { utf8 = h.0; no_nul = h.1.0; canonical = h.1.1 })
      | inr bad ↦ inr (λ p. bad (p.utf8, (p.no_nul, p.canonical)))
    ]
  where
    canonical-told : IsTold (is_array_like part ≡ true → is_canonical part ≡ true)
    canonical-told =
        elim (true-told (is_array_like part)) [
          | inl like ↦ elim (true-told (is_canonical part)) [ inl canonical ↦ inl (λ _. canonical) | inr other ↦ inr (λ h. other (h like)) ]
          | inr unlike ↦ inl (λ like. absurd (unlike like))
        ]

pub name-told : (name : Name) → IsTold (IsName name)
name-told name =
    elim (both-told (all-told IsPart part-told name.parts) (le-told (length (path name)) longest_path)) [
      | inl h ↦ inl (record { parts = h.0; limit = h.1 })
      | inr bad ↦ inr (λ n. bad (n.parts, n.limit))
    ]

pairs-told : (x y : List ℕ × List ℕ) → IsTold (x ≡ y)
pairs-told x y =
    elim (texts-told x.0 y.0) [
      | inl first ↦ elim (texts-told x.1 y.1) [ inl second ↦ inl (λ i. (first i, second i)) | inr other ↦ inr (λ e. other (ap (λ p. p.1) e)) ]
      | inr other ↦ inr (λ e. other (ap (λ p. p.0) e))
    ]

-- two metadata are one, or not
pub meta-told : (a b : Meta) → IsTold (a ≡ b)
meta-told a b =
    elim (lists-told pairs-told (finite.entries a) (finite.entries b)) [
      | inl same ↦ inl (finite.same_entries_map a b same)
      | inr other ↦ inr (λ e. other (ap (λ m. finite.entries m) e))
    ]
