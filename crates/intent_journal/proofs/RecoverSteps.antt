-- What images stand for while the open entries of one of the journal's own files are recovered, and behind that.
use Rattle.std.proofs.Common.{◌≡◌, ◌⊎◌, inl, inr, ℕ, List, ◌++◌, Bool, true, false, cond, Option, Some, None, bytes_eq, refl, sym, ap, ◌∙◌, subst}
use Rattle.std.specs.List.{AllByRecursion}
use Rattle.std.specs.Option.{unwrap_or}
use Rattle.std.proofs.lemmas.Bool.{false_from_ne_true}
use Rattle.std.proofs.lemmas.Slice.Eq.{bytes_eq-Decides}
use Rattle.kdb_outside.specs.Images.{Image, IsImage}
use Rattle.journal_codec.specs.declared.files.FileText.{FileText}
use Rattle.journal_codec.specs.Entry.{journal_name, journal2_name, IsEntry}
use Rattle.journal_lists.specs.Lists.{BeginsSo, as_one}
use Rattle.journal_steps.specs.JournalBytes.{IsOwnFile}
use Rattle.journal_steps.specs.Outcomes.{content_in, with_entries, IsEither}
use Rattle.journal_steps.proofs.Passages.{either_same, with_entries-same}
use Rattle.intent_journal.specs.Outcomes.{ReadsAs, IsBroken, HasOnly}
use Rattle.intent_journal.specs.Recovering.{IsElse, IsBringing, IsBehindBringing}
use Rattle.intent_journal.proofs.Contents.{content_cases}
use Rattle.intent_journal.proofs.Entries.{with_entries-append, with_entries-as_one, with_entries-unlisted, as_one-unnamed}
use Rattle.intent_journal.proofs.Passages.{as_one-own}
use Rattle.intent_journal.proofs.Readings.{reads_same, broken_same}

-- one of two contents, by whether something is named
abbrev pub pick : Option (List ℕ) → List ℕ → List ℕ → List ℕ
pick None was now = now
pick (Some bytes) was now = was

-- an image whose file of open entries, and the files that these name, are as they were read
abbrev pub patched : Image → List ℕ → List (List FileText) → Image → Image
patched seen file list image other =
    cond (bytes_eq other file) (seen other) (pick (content_in (as_one list) other) (seen other) (image other))

pub patched_is : (seen : Image) (leaves : List ℕ → List ℕ → Type 0) (file : List ℕ) (list : List (List FileText))
    (image : Image) → IsImage leaves seen
    → ((other : List ℕ) → IsElse file list other → leaves other (image other))
    → IsImage leaves (patched seen file list image)
patched_is seen leaves file list image seen_is others other =
    by (bytes_eq other file) refl (content_in (as_one list) other) refl
  where
    by : (b : Bool) → bytes_eq other file ≡ b → (o : Option (List ℕ)) → content_in (as_one list) other ≡ o
        → leaves other (cond b (seen other) (pick o (seen other) (image other)))
    by true here o named = seen_is other
    by false apart (Some bytes) named = seen_is other
    by false apart None named = others other ((λ same. let yes = (bytes_eq-Decides other file).1 same in cc), named)

pub patched_this : (seen : Image) (file : List ℕ) (list : List (List FileText)) (image : Image)
    → patched seen file list image file ≡ seen file
patched_this seen file list image =
    ap (λ (b : Bool). cond b (seen file) (pick (content_in (as_one list) file) (seen file) (image file))) ((bytes_eq-Decides file file).1 refl)

pub patched_else : (seen : Image) (file : List ℕ) (list : List (List FileText)) (image : Image) (other : List ℕ)
    → IsElse file list other → patched seen file list image other ≡ image other
patched_else seen file list image other apart =
    let differs : bytes_eq other file ≡ false = false_from_ne_true (bytes_eq other file) (λ same. apart.0 ((bytes_eq-Decides other file).0 same)) in
    ap (λ (b : Bool). cond b (seen other) (pick (content_in (as_one list) other) (seen other) (image other))) differs
    ∙ ap (λ (o : Option (List ℕ)). pick o (seen other) (image other)) apart.1

-- its own files are those of the image, where the file of open entries is as it was read
pub patched_own : (seen : Image) (file : List ℕ) (list : List (List FileText)) (image : Image) (other : List ℕ)
    → AllByRecursion IsEntry list → image file ≡ seen file → IsOwnFile other
    → patched seen file list image other ≡ image other
patched_own seen file list image other each this own = by (bytes_eq other file) refl
  where
    by : (b : Bool) → bytes_eq other file ≡ b → patched seen file list image other ≡ image other
    by true here =
        let same = (bytes_eq-Decides other file).0 here in
        subst (λ (n : List ℕ). patched seen file list image n ≡ image n) (sym same) (patched_this seen file list image ∙ sym this)
    by false apart =
        patched_else seen file list image other ((λ same. let yes = (bytes_eq-Decides other file).1 same in cc), as_one-own list other own each)

-- a disk whose images have these outcomes, and on which each reading begins with the open entries of this file
module _ (seen : Image) (leaves : List ℕ → List ℕ → Type 0) (files : Image) (doubt : Option (List FileText)) (file : List ℕ) (list : List (List FileText)) (own : IsOwnFile file)
    (each : AllByRecursion IsEntry list) (seen_is : IsImage leaves seen) (held : (image : Image) → IsImage leaves image → HasOnly (IsEither files doubt) image)
    (begins : (image : Image) → IsImage leaves image → image file ≡ seen file → (entries : List (List FileText)) → ReadsAs image entries → BeginsSo list entries) where
  module _ (image : Image) (others : (other : List ℕ) → IsElse file list other → leaves other (image other)) where
    was_is : IsImage leaves (patched seen file list image)
    was_is = patched_is seen leaves file list image seen_is others

    -- files that the list doesn't name
    rest_same : (other : List ℕ) → ¬ IsOwnFile other → content_in (as_one list) other ≡ None
        → image other ≡ patched seen file list image other
    rest_same other not_own none =
        sym (patched_else seen file list image other ((λ same. not_own (subst (λ (n : List ℕ). IsOwnFile n) (sym same) own)), none))

    -- so an image with entries is that one with them
    with_same : (entries : List (List FileText)) (other : List ℕ) → ReadsAs (patched seen file list image) entries
        → ¬ IsOwnFile other
        → with_entries image entries other ≡ with_entries (patched seen file list image) entries other
    with_same entries other reads not_own =
        let begun = begins (patched seen file list image) was_is (patched_this seen file list image) entries reads in
        with_entries-unlisted entries image (patched seen file list image) other (λ none.
        rest_same other not_own (as_one-unnamed list begun.0 other (subst (λ (es : List (List FileText)). content_in (as_one es) other ≡ None) begun.1 none)))

    was_either : (entries : List (List FileText)) → ReadsAs (patched seen file list image) entries
        → IsEither files doubt (with_entries (patched seen file list image) entries)
    was_either entries reads =
        (held (patched seen file list image) was_is).each (with_entries (patched seen file list image) entries) (entries, reads, λ other not_own. refl)

    now_either : (outcome : Image) (entries : List (List FileText)) → ReadsAs (patched seen file list image) entries
        → ((other : List ℕ) → ¬ IsOwnFile other → outcome other ≡ with_entries image entries other)
        → IsEither files doubt outcome
    now_either outcome entries reads same =
        either_same files (with_entries (patched seen file list image) entries) outcome doubt (λ other not_own. same other not_own ∙ with_same entries other reads not_own) (was_either entries reads)

  -- while the entries go into their files
  pub bringing_only : (image : Image) → IsBringing seen leaves file list image → HasOnly (IsEither files doubt) image
  bringing_only image bringing =
      let was = patched seen file list image in
      let first = patched_own seen file list image journal_name each bringing.this (inl refl) in
      let second = patched_own seen file list image journal2_name each bringing.this (inr refl) in
      record {
        not_broken = λ broken. (held was (was_is image bringing.others)).not_broken (broken_same image was first second broken);
        each = λ outcome has. now_either image bringing.others outcome has.0 (reads_same image was has.0 first second has.1) has.2;
      }

  -- and behind that, whatever has become of the file that they stand in
  module _ (Become : List ℕ → Type 0) (image : Image) (behind : IsBehindBringing leaves file list Become image)
      (closes : (entries : List (List FileText)) → ReadsAs image entries → ReadsAs (patched seen file list image) entries ⊎ ReadsAs (patched seen file list image) (list ++ entries))
      (breaks : IsBroken image → IsBroken (patched seen file list image)) where
    there : (other : List ℕ) → ¬ IsOwnFile other → image other ≡ with_entries (patched seen file list image) list other
    there other not_own = elim (content_cases (as_one list) other) [
      | inl none ↦ rest_same image behind.others other not_own none
          ∙ sym (with_entries-as_one list (patched seen file list image) other ∙ ap (λ (o : Option (List ℕ)). unwrap_or o (patched seen file list image other)) none)
      | inr some ↦ behind.named other some.0 some.1
          ∙ sym (with_entries-as_one list (patched seen file list image) other ∙ ap (λ (o : Option (List ℕ)). unwrap_or o (patched seen file list image other)) some.1)
    ]

    with_list : (entries : List (List FileText)) (other : List ℕ) → ¬ IsOwnFile other
        → with_entries image entries other ≡ with_entries (patched seen file list image) (list ++ entries) other
    with_list entries other not_own =
        with_entries-same entries image (with_entries (patched seen file list image) list) other (there other not_own)
        ∙ sym (ap (λ (f : Image). f other) (with_entries-append list entries (patched seen file list image)))

    pub behind_only : HasOnly (IsEither files doubt) image
    behind_only = record {
      not_broken = λ broken. (held (patched seen file list image) (was_is image behind.others)).not_broken (breaks broken);
      each = λ outcome has. elim (closes has.0 has.1) [
        | inl same ↦ now_either image behind.others outcome has.0 same has.2
        | inr more ↦ either_same files (with_entries (patched seen file list image) (list ++ has.0)) outcome doubt (λ other not_own. has.2 other not_own ∙ with_list has.0 other not_own)
            (was_either image behind.others (list ++ has.0) more)
      ];
    }
