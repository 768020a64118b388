-- An image without a head of `journal2` is to an opening what its former journal is.
use Rattle.std.proofs.Common.{◌≡◌, inl, inr, ℕ, ◌<◌, List, [], ◌∷◌, ◌++◌, length, Result, Ok, Err, refl, sym, ap, ◌∙◌, subst, arith, append-nil}
use Rattle.kdb_outside.specs.Images.{Image}
use Rattle.journal_codec.specs.declared.files.FileText.{FileText}
use Rattle.journal_codec.specs.Entry.{journal_name, journal2_name}
use Rattle.journal_lists.specs.Heads.{head_start}
use Rattle.journal_lists.specs.Journals.{ReadsFormer, BreaksFormer, ReadsJournal, OpensJournal, BreaksJournal, former_in, journal_in}
use Rattle.journal_lists.proofs.Journals.{journal_is}
use Rattle.journal_steps.specs.declared.faults.JournalFault.{JournalFault}
use Rattle.journal_steps.specs.Outcomes.{with_entries, SameFiles}
use Rattle.intent_journal.specs.Opened.{with_former, found_in}
use Rattle.intent_journal.specs.Outcomes.{ReadsAs, IsBroken, HasOutcome}

-- a file that is too short for a head
module _ (c : List ℕ) (short : length c < head_start) where
  headless_reads : (entries : List (List FileText)) → ReadsJournal c entries → entries ≡ []
  headless_reads entries (inl headless) = headless.1
  headless_reads entries (inr headed) = absurd (let there = headed.0.there in omega arith)

  headless_not_broken : ¬ BreaksJournal c
  headless_not_broken broken = let there = broken.0.there in omega arith

  pub headless_opens : OpensJournal c []
  headless_opens = inl (inl short, refl)

  headless_in : journal_in c ≡ Ok []
  headless_in = journal_is c [] headless_opens

with_none : (former : Result (List (List FileText)) JournalFault) → with_former former (Ok []) ≡ former
with_none (Ok entries) = ap Ok (append-nil entries)
with_none (Err fault) = refl

module _ (image : Image) (short : length (image journal2_name) < head_start) where
  pub former_reads : (entries : List (List FileText)) → ReadsAs image entries → ReadsFormer (image journal_name) entries
  former_reads entries reads =
      let none = headless_reads (image journal2_name) short reads.behind reads.journal in
      let same : entries ≡ reads.before = reads.are ∙ ap (λ (es : List (List FileText)). reads.before ++ es) none ∙ append-nil reads.before in
      subst (λ (es : List (List FileText)). ReadsFormer (image journal_name) es) (sym same) reads.former

  pub reads_former : (entries : List (List FileText)) → ReadsFormer (image journal_name) entries → ReadsAs image entries
  reads_former entries reads =
      record {
        before = entries;
        behind = [];
        are = sym (append-nil entries);
        former = reads;
        journal = inl (inl short, refl);
      }

  pub former_broken : IsBroken image → BreaksFormer (image journal_name)
  former_broken (inl broken) = broken
  former_broken (inr (inl broken)) = absurd (headless_not_broken (image journal2_name) short broken)
  former_broken (inr (inr both)) =
      absurd (let none = headless_reads (image journal2_name) short (both.first ∷ both.more) both.journal in cc)

  pub former_outcome : (files : Image) → HasOutcome image files
      → (entries : List (List FileText)) × ReadsFormer (image journal_name) entries
      × SameFiles files (with_entries image entries)
  former_outcome files has = (has.0, former_reads has.0 has.1, has.2)

  pub outcome_former : (files : Image)
      → ((entries : List (List FileText)) × ReadsFormer (image journal_name) entries × SameFiles files (with_entries image entries))
      → HasOutcome image files
  outcome_former files has = (has.0, reads_former has.0 has.1, has.2)

  pub former_found : found_in image ≡ former_in (image journal_name)
  former_found =
      ap (λ (r : Result (List (List FileText)) JournalFault). with_former (former_in (image journal_name)) r) (headless_in (image journal2_name) short)
      ∙ with_none (former_in (image journal_name))
