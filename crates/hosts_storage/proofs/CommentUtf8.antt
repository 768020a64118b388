-- The comment of a line that is a text is one too.
use Rattle.std.proofs.Common.{◌≡◌, ◌⊎◌, ℕ, ◌==◌, List, [], ◌∷◌, ◌++◌, Option, None, Some, refl, sym, ap, subst, inl, inr, lit<}
use Rattle.std.specs.List.{list_any}
use Rattle.std.specs.Str.{IsUtf8}
use Rattle.std.proofs.lemmas.Bool.{cond_both, eqb-true}
use Rattle.model_lines.specs.Lines.{without_return}
use Rattle.model_lines.proofs.Utf8Lemmas.{utf8-before, utf8-behind}
use Rattle.model_hosts.specs.Line.{cut_at_hash, words, Meaning, Comment, Unreadable, meaning_of, meaning}
use Rattle.general_words.proofs.Lists.{none_is_no_some}

-- a line is as it was, or had a carriage return at its end
line-ends : (line : List ℕ) → (without_return line ≡ line) ⊎ (line ≡ without_return line ++ 13 ∷ [])
line-ends [] = inl refl
line-ends (b ∷ []) =
    cond_both (b == 13) [] (b ∷ []) (λ (r : List ℕ). (r ≡ b ∷ []) ⊎ (b ∷ [] ≡ r ++ 13 ∷ [])) (λ is. inr (ap (λ x. x ∷ []) (eqb-true b 13 is))) (λ _. inl refl)
line-ends (b ∷ c ∷ bytes) = elim (line-ends (c ∷ bytes)) as (λ _. (b ∷ without_return (c ∷ bytes) ≡ b ∷ c ∷ bytes) ⊎ (b ∷ c ∷ bytes ≡ b ∷ (without_return (c ∷ bytes) ++ 13 ∷ []))) [
  | inl same ↦ inl (ap (λ r. b ∷ r) same)
  | inr cut ↦ inr (ap (λ r. b ∷ r) cut)
]

utf8-without_return : (line : List ℕ) → IsUtf8 line → IsUtf8 (without_return line)
utf8-without_return line utf8 = elim (line-ends line) as (λ _. IsUtf8 (without_return line)) [
  | inl same ↦ subst IsUtf8 (sym same) utf8
  | inr cut ↦ utf8-before 13 (without_return line) [] (lit< tt) (subst IsUtf8 cut utf8)
]

cut-whole : (bytes text : List ℕ) → (cut_at_hash bytes).1 ≡ Some text → bytes ≡ (cut_at_hash bytes).0 ++ 35 ∷ text
cut-whole [] text = λ e. absurd (none_is_no_some text e)
cut-whole (b ∷ bytes) text =
    cond_both (b == 35) ([], Some bytes) (b ∷ (cut_at_hash bytes).0, (cut_at_hash bytes).1) (λ (cut : List ℕ × Option (List ℕ)). cut.1 ≡ Some text → b ∷ bytes ≡ cut.0 ++ 35 ∷ text)
    (λ is e. let hash : b ≡ 35 = eqb-true b 35 is in let rest : bytes ≡ text = cc in cc)
    (λ _ e. ap (λ rest. b ∷ rest) (cut-whole bytes text e))

comment-own : (tokens : List (List ℕ)) (own : Option (List ℕ)) (text : List ℕ) → meaning_of tokens own ≡ Comment text
    → own ≡ Some text
comment-own [] None text e = absurd cc
comment-own [] (Some t) text e = cc
comment-own (word ∷ []) own text e = absurd cc
comment-own (address ∷ host ∷ aliases) own text e = absurd cc

pub comment-utf8 : (line text : List ℕ) → IsUtf8 line → meaning line ≡ Comment text → IsUtf8 text
comment-utf8 line text utf8 =
    let bytes = without_return line in
    cond_both (list_any (λ b. b == 13) bytes) Unreadable (meaning_of (words (cut_at_hash bytes).0) (cut_at_hash bytes).1) (λ (m : Meaning). m ≡ Comment text → IsUtf8 text)
    (λ _ e. absurd cc)
    (λ _ e.
    let own = comment-own (words (cut_at_hash bytes).0) (cut_at_hash bytes).1 text e in
    utf8-behind 35 (cut_at_hash bytes).0 text (lit< tt) (subst IsUtf8 (cut-whole bytes text own) (utf8-without_return line utf8)))
