-- Files with the entries of a list, and with the list as one entry.
use Rattle.std.proofs.Common.{◌≡◌, inl, inr, ℕ, List, [], ◌∷◌, ◌++◌, Option, None, refl, sym, ap, ◌∙◌}
use Rattle.std.specs.Option.{unwrap_or}
use Rattle.kdb_outside.specs.Images.{Image}
use Rattle.journal_codec.specs.declared.files.FileText.{FileText}
use Rattle.journal_steps.specs.Outcomes.{content_in, with_entry, with_entries}
use Rattle.journal_steps.proofs.Passages.{with_entry-same, with_entry-again}
use Rattle.journal_lists.specs.Lists.{as_one}
use Rattle.intent_journal.proofs.Contents.{content_cases, content_in-first, content_in-second, cut_none}

-- one list behind another
pub with_entries-append : (entries more : List (List FileText)) (files : Image)
    → with_entries files (entries ++ more) ≡ with_entries (with_entries files entries) more
with_entries-append [] more files = refl
with_entries-append (entry ∷ entries) more files = with_entries-append entries more (with_entry files entry)

-- texts behind others, and the same one after the other
pub with_entry-append : (texts others : List FileText) (files : Image) (file : List ℕ)
    → with_entry files (texts ++ others) file ≡ with_entry (with_entry files others) texts file
with_entry-append texts others files file = elim (content_cases texts file) [
  | inl none ↦ ap (λ (o : Option (List ℕ)). unwrap_or o (files file)) (content_in-second texts others file none)
      ∙ sym (ap (λ (o : Option (List ℕ)). unwrap_or o (with_entry files others file)) none)
  | inr some ↦ ap (λ (o : Option (List ℕ)). unwrap_or o (files file)) (content_in-first texts others file some.0 some.1)
      ∙ sym (ap (λ (o : Option (List ℕ)). unwrap_or o (with_entry files others file)) some.1)
]

-- a list counts as one entry with each file's last content
pub with_entries-as_one : (entries : List (List FileText)) (files : Image) (file : List ℕ)
    → with_entries files entries file ≡ with_entry files (as_one entries) file
with_entries-as_one [] files file = refl
with_entries-as_one (entry ∷ entries) files file =
    with_entries-as_one entries (with_entry files entry) file
    ∙ sym (with_entry-append (as_one entries) entry files file)

-- files that are the same where the list doesn't name them are the same with it
pub with_entries-unlisted : (entries : List (List FileText)) (files others : Image) (file : List ℕ)
    → (content_in (as_one entries) file ≡ None → files file ≡ others file)
    → with_entries files entries file ≡ with_entries others entries file
with_entries-unlisted entries files others file same =
    with_entries-as_one entries files file ∙ with_entry-same (as_one entries) files others file same
    ∙ sym (with_entries-as_one entries others file)

-- and the list changes nothing when it comes in again
pub with_entries-again : (entries : List (List FileText)) (files : Image) (file : List ℕ)
    → with_entries (with_entries files entries) entries file ≡ with_entries files entries file
with_entries-again entries files file =
    with_entries-as_one entries (with_entries files entries) file
    ∙ with_entry-same (as_one entries) (with_entries files entries) (with_entry files (as_one entries)) file (λ _. with_entries-as_one entries files file)
    ∙ with_entry-again files (as_one entries) file ∙ sym (with_entries-as_one entries files file)

-- the list with one more entry
pub as_one-unnamed : (entries more : List (List FileText)) (file : List ℕ)
    → content_in (as_one (entries ++ more)) file ≡ None → content_in (as_one entries) file ≡ None
as_one-unnamed [] more file none = refl
as_one-unnamed (entry ∷ entries) more file none =
    let parts = cut_none (as_one (entries ++ more)) entry file none in
    content_in-second (as_one entries) entry file (as_one-unnamed entries more file parts.0) ∙ parts.1
