-- Disks without calls, and without a journal.
use Rattle.std.proofs.Common.{◌≡◌, inl, inr, ℕ, ◌==◌, true, List, [], ◌∷◌, ◌++◌, length, None, refl, sym, ap, ap₂, ◌∙◌, subst, arith}
use Rattle.std.proofs.lemmas.Bool.{eqb-true}
use Rattle.std.specs.FinMap as map
use Rattle.disk_memory.specs.DiskState.{DiskState, seen_of, left_of}
use Rattle.intent_journal.specs.Outcomes.{ReadsAs, IsBroken, HasOnly}
use Rattle.intent_journal.proofs.ListCalm.{one_calm}
use Rattle.intent_journal.proofs.Retired.{shut_reads, shut_not_broken}
use Rattle.journal_codec.specs.Entry.{journal_name, journal2_name}
use Rattle.journal_lists.specs.Journals.{MayBeHeaded, ReadsJournal}
use Rattle.journal_steps.specs.JournalBytes.{IsShut}
use Rattle.journal_codec.specs.declared.files.FileText.{FileText}
use Rattle.journal_steps.specs.Outcomes.{IsEither, SameFiles, with_entries}
use Rattle.kdb_outside.specs.Images.{Image, IsImage}
use Rattle.model_maps.specs.KeyMap.{KeyMap, no_keys}
use Rattle.model_names.specs.Order.{name_cmp}
use Rattle.store_cases.specs.Disks.{IsAlone, IsCalmDisk, CrashesCalm}
use Rattle.store_verdict.specs.ProcKeys.{AreProc}

-- ---- no keys

pub are_proc : (keys : KeyMap) → keys ≡ no_keys → AreProc keys
are_proc keys none =
    subst AreProc (sym none) (λ name entry e. let nothing : map.get no_keys name ≡ None = map.get-empty name_cmp name in absurd cc)

-- ---- no journal

shut : (c : List ℕ) → c ≡ [] → IsShut c
shut c none = let short : length c ≡ 0 = ap length none in inl (omega (arith, short))

headless : (c : List ℕ) → c ≡ [] → ¬ MayBeHeaded c
headless c none headed =
    let there = headed.there in
    let short : length c ≡ 0 = ap length none in
    omega (arith, there, short)

reads_nothing : (c : List ℕ) (entries : List (List FileText)) → c ≡ [] → ReadsJournal c entries → entries ≡ []
reads_nothing c entries none (inl read) = read.1
reads_nothing c entries none (inr read) = absurd (headless c none read.0)

-- an image without a journal, in either file
module _ (image : Image) (former : image journal_name ≡ []) (journal : image journal2_name ≡ []) where
  not_broken : ¬ IsBroken image
  not_broken (inl breaks) = shut_not_broken (image journal_name) (shut (image journal_name) former) breaks
  not_broken (inr (inl breaks)) = headless (image journal2_name) journal breaks.0
  not_broken (inr (inr both)) =
      let none = shut_reads (image journal_name) (both.one ∷ both.others) (shut (image journal_name) former) both.former in
      omega (arith, ap length none)

  no_entries : (entries : List (List FileText)) → ReadsAs image entries → entries ≡ []
  no_entries entries reads =
      let before = shut_reads (image journal_name) reads.before (shut (image journal_name) former) reads.former in
      let behind = reads_nothing (image journal2_name) reads.behind journal reads.journal in
      reads.are ∙ ap₂ (λ one other. one ++ other) before behind

  -- it stands for its own files alone
  stands_alone : HasOnly (IsEither image None) image
  stands_alone = record {
    not_broken = not_broken;
    each = λ outcome has. inl (subst (λ entries. SameFiles outcome (with_entries image entries)) (no_entries has.0 has.1) has.2);
  }

pub no_bytes : (c : List ℕ) → (length c == 0) ≡ true → c ≡ []
no_bytes [] empty = refl
no_bytes (b ∷ c) empty = let none : length (b ∷ c) ≡ 0 = eqb-true (length (b ∷ c)) 0 empty in absurd (omega arith)

pub calm_without_journal : (disk : DiskState) → IsAlone disk → seen_of disk journal_name ≡ []
    → seen_of disk journal2_name ≡ [] → IsCalmDisk disk
calm_without_journal disk alone former journal =
    (seen_of disk, None, one_calm (seen_of disk) (left_of disk) (seen_of disk) None alone (stands_alone (seen_of disk) former journal))

-- ---- behind a crash

pub calm_behind : (left disk : DiskState) → CrashesCalm left → IsImage (left_of left) (seen_of disk) → IsAlone disk
    → IsCalmDisk disk
calm_behind left disk crashes image alone =
    let is = crashes (seen_of disk) image in
    (is.0, is.1, one_calm (seen_of disk) (left_of disk) is.0 is.1 alone is.2)
