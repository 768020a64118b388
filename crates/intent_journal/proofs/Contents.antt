-- The contents that texts have, one list of them behind another.
use Rattle.std.proofs.Common.{◌≡◌, ◌⊎◌, inl, inr, ℕ, List, [], ◌∷◌, ◌++◌, Bool, true, false, cond, Option, Some, None, bytes_eq, refl, sym, ◌∙◌}
use Rattle.std.proofs.lemmas.Option.{none-some}
use Rattle.journal_codec.specs.declared.files.FileText.{FileText}
use Rattle.journal_steps.specs.Outcomes.{content_in}

-- a file's content, by whether the texts name it
pub content_cases : (texts : List FileText) (file : List ℕ)
    → (content_in texts file ≡ None) ⊎ ((bytes : List ℕ) × (content_in texts file ≡ Some bytes))
content_cases texts file = by (content_in texts file) refl
  where
    by : (o : Option (List ℕ)) → content_in texts file ≡ o
        → (content_in texts file ≡ None) ⊎ ((bytes : List ℕ) × (content_in texts file ≡ Some bytes))
    by None is = inl is
    by (Some bytes) is = inr (bytes, is)

-- what stands for a file in texts and others behind them
first_cond : (b : Bool) (x bytes : List ℕ) (o p : Option (List ℕ)) → (o ≡ Some bytes → p ≡ Some bytes)
    → cond b (Some x) o ≡ Some bytes → cond b (Some x) p ≡ Some bytes
first_cond true x bytes o p on is = is
first_cond false x bytes o p on is = on is

second_cond : (b : Bool) (x : List ℕ) (o p q : Option (List ℕ)) → (o ≡ None → p ≡ q) → cond b (Some x) o ≡ None
    → cond b (Some x) p ≡ q
second_cond true x o p q on is = absurd (cc)
second_cond false x o p q on is = on is

pub content_in-first : (texts others : List FileText) (file bytes : List ℕ) → content_in texts file ≡ Some bytes
    → content_in (texts ++ others) file ≡ Some bytes
content_in-first [] others file bytes is = absurd (none-some bytes is)
content_in-first (text ∷ texts) others file bytes is =
    first_cond (bytes_eq text.file file) text.bytes bytes (content_in texts file) (content_in (texts ++ others) file) (content_in-first texts others file bytes) is

pub content_in-second : (texts others : List FileText) (file : List ℕ) → content_in texts file ≡ None
    → content_in (texts ++ others) file ≡ content_in others file
content_in-second [] others file is = refl
content_in-second (text ∷ texts) others file is =
    second_cond (bytes_eq text.file file) text.bytes (content_in texts file) (content_in (texts ++ others) file) (content_in others file) (content_in-second texts others file) is

pub cut_none : (texts others : List FileText) (file : List ℕ) → content_in (texts ++ others) file ≡ None
    → (content_in texts file ≡ None) × (content_in others file ≡ None)
cut_none texts others file is = elim (content_cases texts file) [
  | inl none ↦ (none, sym (content_in-second texts others file none) ∙ is)
  | inr some ↦ absurd (none-some some.0 (sym is ∙ content_in-first texts others file some.0 some.1))
]
