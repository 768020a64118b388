-- A calm disk is calm with the files that its opening leaves, and with a doubt that stands for no other files.
use Rattle.std.proofs.Common.{◌≡◌, inl, inr, ℕ, true, false, cond, bytes_eq, List, [], ◌∷◌, map as over, Option, Some, None, refl, sym, ap, ◌∙◌}
use Rattle.std.specs.Option.{option_map, unwrap_or}
use Rattle.std.proofs.lemmas.Option.{none-some, same_Some}
use Rattle.journal_steps.specs.Outcomes.{content_in, with_entry, SameFiles, IsEither}
use Rattle.intent_journal.specs.States.{IsCalm}
use Rattle.journal_codec.specs.declared.files.FileText.{FileText}
use Rattle.kdb_outside.specs.Images.{Image}
use Rattle.general_words.proofs.Texts.{same_text}

abbrev Entry : Type 0
Entry = List FileText

-- the same disk is calm with other files and another doubt that all outcomes go by
pub calm_as : (seen : Image) (leaves : List ℕ → List ℕ → Type 0) (files others : Image) (doubt other : Option Entry)
    → IsCalm seen leaves files doubt → ((o : Image) → IsEither files doubt o → IsEither others other o)
    → IsCalm seen leaves others other
calm_as seen leaves files others doubt other calm follows =
    record {
      same = calm.same;
      former = calm.former;
      journal = calm.journal;
      not_broken = calm.not_broken;
      outcomes = λ image outcome is has. follows outcome (calm.outcomes image outcome is has);
    }

-- files that are the same take an entry alike
pub with-same : (files others : Image) (entry : Entry) → SameFiles files others
    → SameFiles (with_entry files entry) (with_entry others entry)
with-same files others entry same file not_own =
    ap (λ (bytes : List ℕ). unwrap_or (content_in entry file) bytes) (same file not_own)

pub either-same : (files others : Image) (doubt : Option Entry) (o : Image) → SameFiles files others
    → IsEither files doubt o → IsEither others doubt o
either-same files others doubt o same (inl is) = inl (λ file not_own. is file not_own ∙ same file not_own)
either-same files others doubt o same (inr one) =
    inr (one.0, one.1, λ file not_own. one.2 file not_own ∙ with-same files others one.0 same file not_own)

-- files that are one of two outcomes are so with nothing in doubt
pub either_none : (files : Image) (doubt : Option Entry) (opened : Image) → IsEither files doubt opened → (o : Image)
    → IsEither opened None o → IsEither files doubt o
either_none files doubt opened either o (inl same) = elim either as (λ x. IsEither files doubt o) [
  | inl as_found ↦ inl (λ file not_own. same file not_own ∙ as_found file not_own)
  | inr one ↦ inr (one.0, one.1, λ file not_own. same file not_own ∙ one.2 file not_own)
]
either_none files doubt opened either o (inr one) = absurd (none-some one.0 one.1)

-- ---- the entry that takes another back

abbrev back : Image → Entry → Entry
back files entry = over (λ text. record { file = text.file; bytes = files text.file }) entry

back_at : (files : Image) (entry : Entry) (file : List ℕ)
    → content_in (back files entry) file ≡ option_map (λ bytes. files file) (content_in entry file)
back_at files [] file = refl
back_at files (text ∷ texts) file = elim (bytes_eq text.file file) as (λ b. bytes_eq text.file file ≡ b
    → cond b (Some (files text.file)) (content_in (back files texts) file) ≡ option_map (λ bytes. files file) (cond b (Some text.bytes) (content_in texts file))) [
      | true ↦ λ e. ap (λ f. Some (files f)) (same_text text.file file e)
      | false ↦ λ e. back_at files texts file
    ] refl

-- on files with an entry, taking it back gives the files
pub taken_back : (files : Image) (entry : Entry)
    → SameFiles (with_entry (with_entry files entry) (back files entry)) files
taken_back files entry file not_own = by (content_in entry file) (back_at files entry file)
  where
    by : (o : Option (List ℕ)) → content_in (back files entry) file ≡ option_map (λ bytes. files file) o
        → unwrap_or (content_in (back files entry) file) (unwrap_or o (files file)) ≡ files file
    by None e = ap (λ (x : Option (List ℕ)). unwrap_or x (files file)) e
    by (Some bytes) e = ap (λ (x : Option (List ℕ)). unwrap_or x bytes) e

-- ---- what the opening leaves

-- a doubt with which a disk is calm on some files, where it is on others with another, and no outcome is new
pub record IsCalmOn (seen : Image) (leaves : List ℕ → List ℕ → Type 0) (files : Image) (doubt : Option Entry) (opened : Image) : Type 0 where
  pub first : Option Entry
  pub calm : IsCalm seen leaves opened first
  pub within : (o : Image) → IsEither opened first o → IsEither files doubt o

pub calm_on : (seen : Image) (leaves : List ℕ → List ℕ → Type 0) (files : Image) (doubt : Option Entry) (opened : Image)
    → IsCalm seen leaves files doubt → IsEither files doubt opened → IsCalmOn seen leaves files doubt opened
calm_on seen leaves files doubt opened calm (inl same) =
    let other : SameFiles files opened = λ file not_own. sym (same file not_own) in
    record {
      first = doubt;
      calm = calm_as seen leaves files opened doubt doubt calm (λ o. either-same files opened doubt o other);
      within = λ o. either-same opened files doubt o same;
    }
calm_on seen leaves files doubt opened calm (inr (entry, is, same)) = record {
  first = Some (back files entry);
  calm = calm_as seen leaves files opened doubt (Some (back files entry)) calm there;
  within = here;
}
  where
    gone : SameFiles (with_entry opened (back files entry)) files
    gone file not_own =
        with-same opened (with_entry files entry) (back files entry) same file not_own
        ∙ taken_back files entry file not_own

    there : (o : Image) → IsEither files doubt o → IsEither opened (Some (back files entry)) o
    there o (inl as_files) =
        inr (back files entry, refl, λ file not_own. as_files file not_own ∙ sym (gone file not_own))
    there o (inr one) =
        let e : one.0 ≡ entry = same_Some one.0 entry (sym one.1 ∙ is) in
        inl (λ file not_own. one.2 file not_own ∙ ap (λ (x : Entry). with_entry files x file) e ∙ sym (same file not_own))

    here : (o : Image) → IsEither opened (Some (back files entry)) o → IsEither files doubt o
    here o (inl as_opened) = inr (entry, is, λ file not_own. as_opened file not_own ∙ same file not_own)
    here o (inr one) =
        let e : back files entry ≡ one.0 = same_Some (back files entry) one.0 one.1 in
        inl (λ file not_own. one.2 file not_own ∙ ap (λ (x : Entry). with_entry opened x file) (sym e) ∙ gone file not_own)
