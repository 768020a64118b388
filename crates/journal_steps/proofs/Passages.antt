-- Files with entries, and which files are among others.
use Rattle.std.proofs.Common.{◌≡◌, ℕ, List, [], ◌∷◌, inl, inr, Option, Some, None, cond, bytes_eq, refl, sym, ◌∙◌, subst}
use Rattle.std.specs.Option.{unwrap_or}
use Rattle.kdb_outside.specs.Images.{Image}
use Rattle.journal_codec.specs.declared.files.FileText.{FileText}
use Rattle.journal_codec.specs.Entry.{journal_name, journal2_name}
use Rattle.journal_steps.specs.Outcomes.{content_in, with_entry, with_entries, SameFiles, IsOutcome, IsEither}
use Rattle.journal_steps.specs.States.{IsOwnImage}

pub unwrap_same : (o : Option (List ℕ)) (x y : List ℕ) → (o ≡ None → x ≡ y) → unwrap_or o x ≡ unwrap_or o y
unwrap_same None x y same = same refl
unwrap_same (Some z) x y same = refl

-- two files with an entry are the same where the entry doesn't name them
pub with_entry-same : (entry : List FileText) (files others : Image) (file : List ℕ)
    → (content_in entry file ≡ None → files file ≡ others file)
    → with_entry files entry file ≡ with_entry others entry file
with_entry-same entry files others file same = unwrap_same (content_in entry file) (files file) (others file) same

-- files are the same with entries where they were the same before
pub with_entries-same : (entries : List (List FileText)) (files others : Image) (file : List ℕ)
    → files file ≡ others file → with_entries files entries file ≡ with_entries others entries file
with_entries-same [] files others file same = same
with_entries-same (entry ∷ entries) files others file same =
    with_entries-same entries (with_entry files entry) (with_entry others entry) file (with_entry-same entry files others file (λ _. same))

-- files that are the same are among the same
pub either_same : (files outcome other : Image) (doubt : Option (List FileText)) → SameFiles other outcome
    → IsEither files doubt outcome → IsEither files doubt other
either_same files outcome other doubt same (inl is) = inl (λ file ne. same file ne ∙ is file ne)
either_same files outcome other doubt same (inr brings) =
    inr (brings.0, brings.1, λ file ne. same file ne ∙ brings.2 file ne)

-- the journal's own files that a crash may leave, alone
abbrev pub own_files : List ℕ → List ℕ → Image
own_files former c file = cond (bytes_eq file journal_name) former c

pub own_image : (leaves : List ℕ → List ℕ → Type 0) (former c : List ℕ) → leaves journal_name former
    → leaves journal2_name c → IsOwnImage leaves (own_files former c)
own_image leaves former c first second file (inl named) =
    subst (λ (n : List ℕ). leaves n (own_files former c n)) (sym named) first
own_image leaves former c first second file (inr named) =
    subst (λ (n : List ℕ). leaves n (own_files former c n)) (sym named) second

pub either_none : (files outcome : Image) → IsEither files None outcome → IsOutcome files outcome
either_none files outcome (inl same) = same
either_none files outcome (inr brings) = let none = brings.1 in absurd (cc)

-- files with an entry stay what they are when it comes in again
pub with_entry-again : (files : Image) (entry : List FileText) (file : List ℕ)
    → with_entry (with_entry files entry) entry file ≡ with_entry files entry file
with_entry-again files entry file = again (content_in entry file) (files file)
  where
    again : (o : Option (List ℕ)) (x : List ℕ) → unwrap_or o (unwrap_or o x) ≡ unwrap_or o x
    again None x = refl
    again (Some y) x = refl
