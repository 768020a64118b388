-- What the images of a head and a list in the journal stand for.
use Rattle.std.proofs.Common.{◌≡◌, ◌⊎◌, ℕ, Bool, true, false, List, [], ◌∷◌, ◌++◌, inl, inr, length, drop, Option, None, refl, sym, ap, ◌∙◌, subst, arith, length-append}
use Rattle.kdb_outside.specs.Images.{Image, IsImage}
use Rattle.journal_codec.specs.declared.files.FileText.{FileText}
use Rattle.journal_codec.specs.Entry.{journal_name, journal2_name}
use Rattle.journal_codec.specs.Header.{IsHeader}
use Rattle.journal_steps.specs.JournalBytes.{gate, IsShut, IsClosed}
use Rattle.journal_steps.specs.Outcomes.{with_entries, IsOutcome, IsEither}
use Rattle.journal_steps.proofs.Passages.{either_same, either_none, with_entries-same}
use Rattle.journal_lists.specs.Heads.{front, front_size, IsHead}
use Rattle.journal_lists.specs.Journals.{MayBeHeadless, BreaksBehindHead, ReadsJournal, BreaksJournal}
use Rattle.journal_lists.specs.Lists.{ReadsFrom, BreaksFrom, list_bytes}
use Rattle.journal_lists.specs.Rules.{listed}
use Rattle.journal_lists.proofs.Heads.{front_is_head, same_names, drop_front, length_front}
use Rattle.journal_lists.proofs.ListReads.{reads_closed, closed_not_broken, reads_list, breaks_list}
use Rattle.intent_journal.specs.Outcomes.{IsBroken, HasOnly}
use Rattle.intent_journal.specs.States.{RestGives, IsListed, IsInDoubt, IsBare, IsHeadInDoubt, IsSettled, RestsAs}
use Rattle.intent_journal.proofs.Entries.{with_entries-append, with_entries-unlisted}
use Rattle.intent_journal.proofs.Retired.{retired_shut, shut_reads, shut_not_broken}

-- no more entries leave the files as they are
pub nothing_more : (files : Image) (doubt : Option (List FileText)) (more : List (List FileText)) → more ≡ []
    → IsEither files doubt (with_entries files more)
nothing_more files doubt more none =
    subst (λ (es : List (List FileText)). IsEither files doubt (with_entries files es)) (sym none) (inl (λ file own. refl))

-- where the former journal is shut an image stands for what its journal makes of it
pub only_from : (files image : Image) (doubt : Option (List FileText)) → IsShut (image journal_name)
    → ¬ BreaksJournal (image journal2_name)
    → ((entries : List (List FileText)) → ReadsJournal (image journal2_name) entries → IsEither files doubt (with_entries image entries))
    → HasOnly (IsEither files doubt) image
only_from files image doubt shut whole gives = record {
  not_broken = unbroken;
  each = λ outcome has.
      let read = has.1 in
      let none = shut_reads (image journal_name) read.before shut read.former in
      let alone : has.0 ≡ read.behind = read.are ∙ ap (λ (es : List (List FileText)). es ++ read.behind) none in
      either_same files (with_entries image has.0) outcome doubt has.2
      (subst (λ (es : List (List FileText)). IsEither files doubt (with_entries image es)) (sym alone) (gives read.behind read.journal));
}
  where
    unbroken : ¬ IsBroken image
    unbroken (inl former) = shut_not_broken (image journal_name) shut former
    unbroken (inr (inl journal)) = whole journal
    unbroken (inr (inr both)) =
        let none = shut_reads (image journal_name) (both.one ∷ both.others) shut both.former in absurd (cc)

-- ---- a journal that begins with a head

module _ (names : List (List ℕ)) (header : IsHeader names) (c behind : List ℕ) (begins : c ≡ front names ++ behind) where
  head_is : IsHead c names
  head_is = subst (λ (x : List ℕ). IsHead x names) (sym begins) (front_is_head names header behind)

  list_is : drop (front_size names) c ≡ behind
  list_is = ap (drop (front_size names)) begins ∙ drop_front names behind

  not_headless : ¬ MayBeHeadless c
  not_headless (inl short) = omega (arith, ap length begins, length-append (front names) behind, length_front names)
  not_headless (inr shut) = shut (ap gate begins)

  -- what it reads as is what stands behind the head
  pub head_reads : (entries : List (List FileText)) → ReadsJournal c entries
      → ReadsFrom (listed names) 0 0 behind entries
  head_reads entries (inl headless) = absurd (not_headless headless.0)
  head_reads entries (inr headed) =
      let read = headed.1 in
      let same = same_names c names read.names head_is read.head in
      subst (λ (rest : List ℕ). ReadsFrom (listed names) 0 0 rest entries) list_is
      (subst (λ (ns : List (List ℕ)). ReadsFrom (listed ns) 0 0 (drop (front_size ns) c) entries) same read.reads)

  -- and it is broken only where that is
  pub head_breaks : BreaksJournal c → BreaksFrom (listed names) 0 0 behind
  head_breaks broken = by broken.1
    where
      by : (((ns : List (List ℕ)) → ¬ IsHead c ns) ⊎ BreaksBehindHead c) → BreaksFrom (listed names) 0 0 behind
      by (inl headless) = absurd (headless names head_is)
      by (inr list) =
          let same = same_names c names list.names head_is list.head in
          subst (λ (rest : List ℕ). BreaksFrom (listed names) 0 0 rest) list_is
          (subst (λ (ns : List (List ℕ)). BreaksFrom (listed ns) 0 0 (drop (front_size ns) c)) same list.breaks)

-- ---- lists

-- behind a closed gate nothing is in doubt
pub closed_gives : (names : List (List ℕ)) (number place : ℕ) (files : Image) (doubt : Option (List FileText))
    (rest : List ℕ) → IsClosed rest → RestGives names number place files doubt rest
closed_gives names number place files doubt rest closed = record {
  not_broken = closed_not_broken (listed names) number place rest closed;
  outcomes = λ more reads. nothing_more files doubt more (reads_closed (listed names) number place rest more closed reads);
}

-- a sure list is one with any doubt
pub listed_doubt : (leaves : List ℕ → List ℕ → Type 0) (names : List (List ℕ)) (before : Image)
    (entries : List (List FileText)) (doubt : Option (List FileText))
    → IsListed leaves names before entries → IsInDoubt leaves names before entries doubt
listed_doubt leaves names before entries doubt state = record {
  same = state.same;
  former = state.former;
  header = state.header;
  fits = state.fits;
  journal = λ c is.
      let begins = state.journal c is in
      (begins.0, begins.1, closed_gives names (length entries) (length (list_bytes entries)) (with_entries before entries) doubt begins.0 begins.2);
}

-- what a crash leaves of a list in doubt stands for the files with the list, or for these with the doubt
pub doubt_only : (leaves : List ℕ → List ℕ → Type 0) (names : List (List ℕ)) (before : Image)
    (entries : List (List FileText)) (doubt : Option (List FileText))
    → IsInDoubt leaves names before entries doubt → (image : Image) → IsImage leaves image
    → HasOnly (IsEither (with_entries before entries) doubt) image
doubt_only leaves names before entries doubt state image is =
    let c = image journal2_name in
    let begins = state.journal c (is journal2_name) in
    let files = with_entries before entries in
    let last = length entries in
    let ends = length (list_bytes entries) in
    let fits = state.fits in
    only_from files image doubt (retired_shut leaves (image journal_name) state.former (is journal_name))
    (λ broken.
    begins.2.not_broken (breaks_list (listed names) entries 0 0 last ends begins.0 fits.each fits.few fits.within (omega arith) (omega arith)
    (head_breaks names state.header c (list_bytes entries ++ begins.0) begins.1 broken)))
    (λ all reads.
    let read = reads_list (listed names) entries 0 0 last ends begins.0 all fits.each (omega arith) (omega arith) (head_reads names state.header c (list_bytes entries ++ begins.0) begins.1 all reads) in
    either_same files (with_entries files read.more) (with_entries image all) doubt
    (λ file own.
    ap (λ (es : List (List FileText)). with_entries image es file) read.is
    ∙ ap (λ (f : Image). f file) (with_entries-append entries read.more image)
    ∙ with_entries-same read.more (with_entries image entries) files file (with_entries-unlisted entries image before file (λ none. state.same file own none (image file) (is file))))
    (begins.2.outcomes read.more read.reads))

-- with no doubt there are only the files
pub only_none : (files image : Image) → HasOnly (IsEither files None) image → HasOnly (IsOutcome files) image
only_none files image only =
    record { not_broken = only.not_broken; each = λ outcome has. either_none files outcome (only.each outcome has) }

pub listed_only : (leaves : List ℕ → List ℕ → Type 0) (names : List (List ℕ)) (before : Image)
    (entries : List (List FileText)) → IsListed leaves names before entries
    → (image : Image) → IsImage leaves image → HasOnly (IsOutcome (with_entries before entries)) image
listed_only leaves names before entries state image is =
    only_none (with_entries before entries) image (doubt_only leaves names before entries None (listed_doubt leaves names before entries None state) image is)

-- no doubt is any doubt
pub doubt_any : (leaves : List ℕ → List ℕ → Type 0) (names : List (List ℕ)) (before : Image)
    (entries : List (List FileText)) (doubt : Option (List FileText))
    → IsInDoubt leaves names before entries None → IsInDoubt leaves names before entries doubt
doubt_any leaves names before entries doubt state = record {
  same = state.same;
  former = state.former;
  header = state.header;
  fits = state.fits;
  journal = λ c is.
      let begins = state.journal c is in
      let files = with_entries before entries in (
        begins.0,
        begins.1,
        record {
          not_broken = begins.2.not_broken;
          outcomes = λ more reads. inl (either_none files (with_entries files more) (begins.2.outcomes more reads));
        },
      );
}

-- ---- heads

-- of a journal whose header gate is closed nothing is read, and nothing is broken
pub closed_reads : (c : List ℕ) (entries : List (List FileText)) → IsClosed c → ReadsJournal c entries → entries ≡ []
closed_reads c entries closed (inl headless) = headless.1
closed_reads c entries closed (inr headed) = absurd (headed.0.open_too closed.gate_is)

pub closed_journal_not_broken : (c : List ℕ) → IsClosed c → ¬ BreaksJournal c
closed_journal_not_broken c closed broken = broken.0.open_too closed.gate_is

-- so it is in any doubt
pub bare_doubt : (leaves : List ℕ → List ℕ → Type 0) (files : Image) (doubt : Option (List FileText))
    → IsBare leaves files → IsHeadInDoubt leaves files doubt
bare_doubt leaves files doubt state = record {
  same = state.same;
  former = state.former;
  journal = λ c is. record {
    not_broken = closed_journal_not_broken c (state.journal c is);
    outcomes = λ more reads. nothing_more files doubt more (closed_reads c more (state.journal c is) reads);
  };
}

-- what a crash leaves of a head in doubt stands for the files, or for these with the doubt
pub head_only : (leaves : List ℕ → List ℕ → Type 0) (files : Image) (doubt : Option (List FileText))
    → IsHeadInDoubt leaves files doubt
    → (image : Image) → IsImage leaves image → HasOnly (IsEither files doubt) image
head_only leaves files doubt state image is =
    let gives = state.journal (image journal2_name) (is journal2_name) in
    only_from files image doubt (retired_shut leaves (image journal_name) state.former (is journal_name)) gives.not_broken
    (λ more reads.
    either_same files (with_entries files more) (with_entries image more) doubt
    (λ file own. with_entries-same more image files file (state.same file own refl (image file) (is file))) (gives.outcomes more reads))

pub bare_only : (leaves : List ℕ → List ℕ → Type 0) (files : Image) → IsBare leaves files → (image : Image)
    → IsImage leaves image → HasOnly (IsOutcome files) image
bare_only leaves files state image is =
    only_none files image (head_only leaves files None (bare_doubt leaves files None state) image is)

-- ---- where nothing can come in

pub bare_settled : (leaves : List ℕ → List ℕ → Type 0) (files : Image) → IsBare leaves files → IsSettled leaves files
bare_settled leaves files state = record {
  same = state.same;
  former = state.former;
  journal = λ c is. record { not_broken = closed_journal_not_broken c (state.journal c is); none = λ more reads. closed_reads c more (state.journal c is) reads };
}

pub listed_settled : (leaves : List ℕ → List ℕ → Type 0) (names : List (List ℕ)) (files : Image)
    → IsListed leaves names files [] → IsSettled leaves files
listed_settled leaves names files state = record {
  same = state.same;
  former = state.former;
  journal = λ c is.
      let begins = state.journal c is in
      record {
        not_broken = λ broken. closed_not_broken (listed names) 0 0 begins.0 begins.2 (head_breaks names state.header c begins.0 begins.1 broken);
        none = λ more reads. reads_closed (listed names) 0 0 begins.0 more begins.2 (head_reads names state.header c begins.0 begins.1 more reads);
      };
}

-- what a crash leaves of a journal at rest
pub rests_only : (headed in_doubt : Bool) (leaves : List ℕ → List ℕ → Type 0) (names : List (List ℕ)) (before : Image)
    (list : List (List FileText)) (doubt : Option (List FileText))
    → RestsAs headed in_doubt leaves names before list doubt → (image : Image) → IsImage leaves image
    → HasOnly (IsEither (with_entries before list) doubt) image
rests_only true false leaves names before list doubt state image is =
    doubt_only leaves names before list doubt (listed_doubt leaves names before list doubt state) image is
rests_only true true leaves names before list doubt state image is =
    doubt_only leaves names before list doubt state image is
rests_only false false leaves names before list doubt state image is =
    subst (λ (es : List (List FileText)). HasOnly (IsEither (with_entries before es) doubt) image) (sym state.0) (head_only leaves before doubt (bare_doubt leaves before doubt state.1) image is)
rests_only false true leaves names before list doubt state image is =
    subst (λ (es : List (List FileText)). HasOnly (IsEither (with_entries before es) doubt) image) (sym state.0) (head_only leaves before doubt state.1 image is)
