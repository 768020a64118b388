-- Journals whose gates are decided have one reading, which is that of the opening.
use Rattle.std.proofs.Common.{◌≡◌, inl, inr, ℕ, ◌+◌, Bool, true, false, List, [], ◌∷◌, drop, Result, Ok, refl, sym, ap, subst, ◌∙◌, arith}
use Rattle.journal_lists.specs.Grammar.{head_size, size_of, body_of, rest_of}
use Rattle.journal_lists.specs.Heads.{head_start, front_size}
use Rattle.journal_lists.specs.Journals.{OpensFormer, OpensJournal, ReadsFormer, ReadsJournal, journal_in}
use Rattle.journal_lists.specs.Lists.{Follows, IsOpenAt, Leads, MayBeOpen, OpensFrom, ReadsFrom}
use Rattle.journal_lists.specs.Rules.{Rule, listed, plain}
use Rattle.intent_journal.specs.Opened.{entries_found, found_in, opened_files, with_former}
use Rattle.intent_journal.specs.Outcomes.{HasOutcome}
use Rattle.journal_lists.proofs.Journals.{former_is, journal_is}
use Rattle.journal_lists.proofs.OpenReads.{drop_drop}
use Rattle.journal_codec.specs.declared.files.FileText.{FileText}
use Rattle.journal_codec.specs.Entry.{journal_name, journal2_name}
use Rattle.journal_codec.specs.Forms.{followed}
use Rattle.journal_steps.specs.declared.faults.JournalFault.{JournalFault}
use Rattle.journal_steps.specs.Outcomes.{SameFiles, with_entries}
use Rattle.kdb_outside.specs.Images.{Image}
use Rattle.tool_single.specs.Runs.{IsClear, IsDecided}

abbrev Found : Type 0
Found = Result (List (List FileText)) JournalFault

-- ---- a list

-- a gate that may be open and is decided is open
opens_there : (c : List ℕ) → MayBeOpen c → IsClear head_size c → IsOpenAt c
opens_there c may (inl short) = absurd (let there = may.there in omega arith)
opens_there c may (inr (inl closed)) = absurd (may.open_too closed)
opens_there c may (inr (inr one)) = record { there = may.there; gate_is = one }

follows_so : (b : Bool) (entries : List (List FileText)) (X Y : Type 0) → (b ≡ true → X → Y) → Follows b entries X
    → Follows b entries Y
follows_so true entries X Y on follows = on refl follows
follows_so false [] X Y on follows = tt
follows_so false (entry ∷ entries) X Y on follows = absurd follows

-- the bytes behind an entry stand at the place behind it
behind_entry : (list : List ℕ) (place : ℕ) (c : List ℕ) → c ≡ drop place list
    → rest_of (drop 1 c) ≡ drop (place + head_size + size_of (drop 1 c)) list
behind_entry list place c there =
    let size = size_of (drop 1 c) in
    ap (drop size) (drop_drop 4 1 c)
    ∙ drop_drop size 5 c
    ∙ ap (drop (5 + size)) there
    ∙ drop_drop (5 + size) place list
    ∙ ap (λ (n : ℕ). drop n list) (sums place size)
  where
    sums : (a b : ℕ) → a + (5 + b) ≡ a + head_size + b
    sums a b = omega arith

module _ (rule : Rule) where
  -- the gates that some bytes of a list lead to are decided
  abbrev AreClear : List ℕ → ℕ → ℕ → List ℕ → Type 0
  AreClear list number place c =
      (at : ℕ) (entries : List (List FileText)) → Leads rule (λ n p rest. p ≡ at) number place c entries → IsClear head_size (drop at list)

  decided_from : (list : List ℕ) (number place : ℕ) (c : List ℕ) (entries : List (List FileText)) → c ≡ drop place list
      → AreClear list number place c → ReadsFrom rule number place c entries
      → OpensFrom rule number place c entries
  decided_from list number place c [] there clear reads = reads
  decided_from list number place c (entry ∷ entries) there clear reads =
      let next = place + head_size + size_of (drop 1 c) in
      let rest = rest_of (drop 1 c) in (
        opens_there c reads.0 (subst (IsClear head_size) (sym there) (clear place [] refl)),
        reads.1,
        follows_so (followed (body_of (drop 1 c))) entries (ReadsFrom rule (number + 1) next rest entries) (OpensFrom rule (number + 1) next rest entries)
            (λ goes_on behind. decided_from list (number + 1) next rest entries (behind_entry list place c there)
            (λ at more leads. clear at (entry ∷ more) (reads.0, reads.1, goes_on, leads)) behind) reads.2,
      )

-- ---- the journals

former_decided : (image : Image) (entries : List (List FileText)) → IsDecided image
    → ReadsFormer (image journal_name) entries → OpensFormer (image journal_name) entries
former_decided image entries decided reads =
    decided_from plain (image journal_name) 0 0 (image journal_name) entries refl (λ at more leads. decided.former at (more, leads)) reads

journal_decided : (image : Image) (entries : List (List FileText)) → IsDecided image
    → ReadsJournal (image journal2_name) entries → OpensJournal (image journal2_name) entries
journal_decided image entries decided (inl headless) = inl headless
journal_decided image entries decided (inr (headed, behind)) = by decided.head
  where
    c : List ℕ
    c = image journal2_name

    list : List ℕ
    list = drop (front_size behind.names) c

    clear : (at : ℕ) (more : List (List FileText)) → Leads (listed behind.names) (λ n p rest. p ≡ at) 0 0 list more
        → IsClear head_size (drop at list)
    clear at more leads =
        subst (IsClear head_size) (sym (drop_drop at (front_size behind.names) c))
        (decided.list (front_size behind.names + at) (record { headed = headed; names = behind.names; head = behind.head; place = at; gates = (more, leads); is = refl }))

    by : IsClear head_start c → OpensJournal c entries
    by (inl short) = absurd (let there = headed.there in omega arith)
    by (inr (inl closed)) = absurd (headed.open_too closed)
    by (inr (inr one)) =
        inr (
          record { there = headed.there; gate_is = one },
          record {
            names = behind.names;
            head = behind.head;
            opens = decided_from (listed behind.names) list 0 0 list entries refl clear behind.reads;
          },
        )

-- all outcomes of an image whose gates are decided are the files that its opening leaves
pub one_outcome : (image outcome : Image) → IsDecided image → HasOutcome image outcome
    → SameFiles outcome (opened_files image)
one_outcome image outcome decided has file own =
    let reads = has.1 in
    let former = former_is (image journal_name) reads.before (former_decided image reads.before decided reads.former) in
    let journal = journal_is (image journal2_name) reads.behind (journal_decided image reads.behind decided reads.journal) in
    let found : found_in image ≡ with_former (Ok reads.before) (Ok reads.behind) =
    ap (λ (f : Found). with_former f (journal_in (image journal2_name))) former ∙ ap (λ (j : Found). with_former (Ok reads.before) j) journal in
    has.2 file own ∙ ap (λ (r : Found). with_entries image (entries_found r) file) (ap Ok reads.are ∙ sym found)
