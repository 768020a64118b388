-- What the opening of `journal2` on a calm disk finds and leaves, where the former journal is retired.
use Rattle.std.proofs.Common.{◌≡◌, ◌≢◌, ◌⊎◌, inl, inr, ℕ, List, [], ◌∷◌, ◌++◌, Bool, true, false, cond, Option, Some, None, Result, Ok, Err, bytes_eq, refl, sym, ap, ap₂, ◌∙◌, subst, arith, append-nil}
use Rattle.std.specs.Option.{unwrap_or}
use Rattle.std.specs.Global.{Vec}
use Rattle.std.specs.Result.{IsErrAnd}
use Rattle.std.specs.List.{AllByRecursion}
use Rattle.std.proofs.lemmas.Slice.Eq.{bytes_eq-Decides}
use Rattle.general_words.proofs.Lists.{some_is}
use Rattle.kdb_outside.specs.declared.disks.Disk.{Ghosts}
use Rattle.kdb_outside.specs.declared.faults.Failed.{Failed}
use Rattle.kdb_outside.specs.Faults.{HasRisen}
use Rattle.kdb_outside.specs.Frames.{GoesOn, OnlyReads}
use Rattle.kdb_outside.proofs.Frames.{GoesOn-then, OnlyReads-goes_on, OnlyReads-then}
use Rattle.kdb_outside.proofs.Rises.{risen_since}
use Rattle.kdb_outside.proofs.TornLemmas.{IsTornWrite-whole}
use Rattle.kdb_outside.specs.Images.{Image, IsImage, Only, IsTornWrite, KeepsImages}
use Rattle.journal_codec.specs.declared.files.FileText.{FileText}
use Rattle.journal_codec.specs.Entry.{journal_name, journal2_name, IsEntry}
use Rattle.journal_lists.specs.Heads.{head_start}
use Rattle.journal_lists.specs.Journals.{ReadsFormer, ReadsJournal, OpensJournal, BreaksJournal, journal_in}
use Rattle.journal_lists.specs.Lists.{HasGate, BeginsSo, as_one}
use Rattle.journal_lists.specs.Rules.{plain}
use Rattle.journal_lists.proofs.Journals.{former_is, former_read, journal_opens, journal_is, journal_read, journal_begins, journal_once, journal_has_reading}
use Rattle.journal_steps.specs.declared.faults.JournalFault.{JournalFault}
use Rattle.journal_steps.specs.declared.faults.JournalFault.TheVariants.{BadJournal, UnknownVersion, DiskFault}
use Rattle.journal_steps.specs.JournalBytes.{IsOwnFile, IsShut}
use Rattle.journal_steps.specs.Moments.{AddsOnly, LeavesOnly}
use Rattle.journal_steps.specs.Outcomes.{content_in, with_entry, with_entries, SameFiles, IsEither}
use Rattle.journal_steps.proofs.Contents.{cond_some, cond_none}
use Rattle.journal_steps.proofs.Meanwhile.{else_both, else_weaker, meanwhile}
use Rattle.journal_steps.proofs.Passages.{either_same, own_files, own_image, with_entry-same, with_entries-same}
use Rattle.journal_steps.proofs.ReadLemmas.{IsImage-kept, reads_leave}
use Rattle.intent_journal.specs.Opened.{with_former, found_in, entries_found, opened_files}
use Rattle.intent_journal.specs.Openings.{IsOpened, StaysFound, OpensCalm, OpensBehind, items_of}
use Rattle.intent_journal.specs.Outcomes.{ReadsAs, IsBroken, HasOnly}
use Rattle.intent_journal.specs.Recovering.{IsElse, IsBehindBringing, IsRecovering, Recovers}
use Rattle.intent_journal.specs.States.{IsRetired, JournalGives, IsHeadInDoubt, HoldsNone, HasJournalGate, IsCalm}
use Rattle.intent_journal.proofs.Closings.{IsListAt, closing_reads_journal, closing_breaks_journal, closed_holds_none}
use Rattle.intent_journal.proofs.Contents.{content_cases}
use Rattle.intent_journal.proofs.Entries.{with_entries-as_one}
use Rattle.intent_journal.proofs.Passages.{as_one-own}
use Rattle.intent_journal.proofs.Readings.{put_journal, put_leaves, put_same, one_gate_kept, one_image_gate, calm_from, calm_each}
use Rattle.intent_journal.proofs.RecoverSteps.{patched, patched_this, patched_else, bringing_only, behind_only}
use Rattle.intent_journal.proofs.Retired.{names_apart, retired_shut, retired_kept, retired_gate, shut_reads, shut_opens, shut_not_broken}

-- an entry that takes another one back: its files have the contents from before
abbrev undone : Image → List FileText → List FileText
undone files [] = []
undone files (text ∷ texts) = record { file = text.file; bytes = files text.file } ∷ undone files texts

undone-named : (files : Image) (entry : List FileText) (file bytes : List ℕ) → content_in entry file ≡ Some bytes
    → content_in (undone files entry) file ≡ Some (files file)
undone-named files [] file bytes is = absurd (cc)
undone-named files (text ∷ texts) file bytes is =
    by (cond_some (bytes_eq text.file file) text.bytes bytes (content_in texts file) is) (λ there. undone-named files texts file bytes there)
  where
    by : ((bytes_eq text.file file ≡ true) × (text.bytes ≡ bytes))
        ⊎ ((bytes_eq text.file file ≡ false) × (content_in texts file ≡ Some bytes))
        → (content_in texts file ≡ Some bytes → content_in (undone files texts) file ≡ Some (files file))
        → content_in (undone files (text ∷ texts)) file ≡ Some (files file)
    by (inl here) on =
        ap (λ (b : Bool). cond b (Some (files text.file)) (content_in (undone files texts) file)) here.0
        ∙ ap (λ (f : List ℕ). Some (files f)) ((bytes_eq-Decides text.file file).0 here.0)
    by (inr there) on =
        ap (λ (b : Bool). cond b (Some (files text.file)) (content_in (undone files texts) file)) there.0 ∙ on there.1

undone-unnamed : (files : Image) (entry : List FileText) (file : List ℕ) → content_in entry file ≡ None
    → content_in (undone files entry) file ≡ None
undone-unnamed files [] file none = refl
undone-unnamed files (text ∷ texts) file none =
    let parts = cond_none (bytes_eq text.file file) text.bytes (content_in texts file) none in
    ap (λ (b : Bool). cond b (Some (files text.file)) (content_in (undone files texts) file)) parts.0
    ∙ undone-unnamed files texts file parts.1

-- files with an entry, and then with what takes it back
with_undone : (files seen : Image) (entry : List FileText) (file : List ℕ) → seen file ≡ with_entry files entry file
    → with_entry seen (undone files entry) file ≡ files file
with_undone files seen entry file same = elim (content_cases entry file) [
  | inl none ↦ ap (λ (o : Option (List ℕ)). unwrap_or o (seen file)) (undone-unnamed files entry file none) ∙ same ∙ ap (λ (o : Option (List ℕ)). unwrap_or o (files file)) none
  | inr some ↦ ap (λ (o : Option (List ℕ)). unwrap_or o (seen file)) (undone-named files entry file some.0 some.1)
]

-- the same outcomes, told from the files, or from these with the entry
either_rebased : (files seen : Image) (doubt : Option (List FileText)) (outcome : Image) → SameFiles seen files
    → IsEither files doubt outcome → IsEither seen doubt outcome
either_rebased files seen doubt outcome same (inl is) = inl (λ file own. is file own ∙ sym (same file own))
either_rebased files seen doubt outcome same (inr brings) =
    inr (brings.0, brings.1, λ file own. brings.2 file own ∙ sym (with_entry-same brings.0 seen files file (λ _. same file own)))

either_turned : (files seen : Image) (entry : List FileText) (outcome : Image) → SameFiles seen (with_entry files entry)
    → IsEither files (Some entry) outcome
    → IsEither seen (Some (undone files entry)) outcome
either_turned files seen entry outcome same (inl is) =
    inr (undone files entry, refl, λ file own. is file own ∙ sym (with_undone files seen entry file (same file own)))
either_turned files seen entry outcome same (inr brings) =
    inl (λ file own. brings.2 file own ∙ ap (λ (e : List FileText). with_entry files e file) (sym (some_is entry brings.0 brings.1)) ∙ sym (same file own))

-- files that are the same are in the same doubt
pub moved_doubt : (leaves : List ℕ → List ℕ → Type 0) (opened files : Image) (doubt : Option (List FileText))
    → SameFiles files opened → IsHeadInDoubt leaves opened doubt
    → IsHeadInDoubt leaves files doubt
moved_doubt leaves opened files doubt same state = record {
  same = λ file own none c is. state.same file own none c is ∙ sym (same file own);
  former = state.former;
  journal = λ c is.
      let gives = state.journal c is in
      record {
        not_broken = gives.not_broken;
        outcomes = λ more reads.
            either_same files (with_entries opened more) (with_entries files more) doubt (λ file own. with_entries-same more files opened file (same file own))
            (either_rebased opened files doubt (with_entries opened more) same (gives.outcomes more reads));
      };
}

-- a journal without an entry in any reading leaves nothing in doubt
pub none_gives : (files : Image) (doubt : Option (List FileText)) (c : List ℕ) → HoldsNone c
    → JournalGives files doubt c
none_gives files doubt c holds = record {
  not_broken = holds.not_broken;
  outcomes = λ more reads. subst (λ (es : List (List FileText)). IsEither files doubt (with_entries files es)) (sym (holds.none more reads)) (inl (λ file own. refl));
}

pub doubt_settled : (leaves : List ℕ → List ℕ → Type 0) (files : Image) (doubt later : Option (List FileText))
    → IsHeadInDoubt leaves files doubt
    → ((c : List ℕ) → leaves journal2_name c → HoldsNone c) → IsHeadInDoubt leaves files later
doubt_settled leaves files doubt later state holds =
    record { same = state.same; former = state.former; journal = λ c is. none_gives files later c (holds c is) }

pub none_is : (c : List ℕ) → HoldsNone c → journal_in c ≡ Ok []
none_is c holds =
    let reading = journal_has_reading c holds.not_broken in
    journal_is c reading.0 reading.1
    ∙ ap (λ (es : List (List FileText)). Ok es) (holds.none reading.0 (journal_read c reading.0 reading.1))

-- a calm disk whose former journal is retired, and whose `journal2` has these open entries
module _ (seen : Image) (leaves : List ℕ → List ℕ → Type 0) (files : Image) (doubt : Option (List FileText)) (calm : IsCalm seen leaves files doubt) (seen_is : IsImage leaves seen)
    (retired : IsRetired leaves) (list : List (List FileText)) (opens : OpensJournal (seen journal2_name) list) where
  shut : IsShut (seen journal_name)
  shut = retired_shut leaves (seen journal_name) retired (seen_is journal_name)

  no_former : ReadsFormer (seen journal_name) []
  no_former = former_read (seen journal_name) [] (shut_opens (seen journal_name) shut)

  -- files that they don't name are as a read gives them
  pub calm_unnamed : (file : List ℕ) → ¬ IsOwnFile file → content_in (as_one list) file ≡ None
      → Only (seen file) (leaves file)
  calm_unnamed file own none = calm.same file own (λ entries opened.
      let before : opened.before ≡ [] = shut_reads (seen journal_name) opened.before shut (former_read (seen journal_name) opened.before opened.former) in
      let behind : opened.behind ≡ list = journal_once (seen journal2_name) list opened.behind opens opened.journal in
      let all : entries ≡ list = opened.are ∙ ap₂ (λ (a b : List (List FileText)). a ++ b) before behind in
      subst (λ (es : List (List FileText)). content_in (as_one es) file ≡ None) (sym all) none)

  pub opened_either : IsEither files doubt (with_entries seen list)
  opened_either =
      calm.outcomes seen (with_entries seen list) seen_is (list, record { before = []; behind = list; are = refl; former = no_former; journal = journal_read (seen journal2_name) list opens }, λ file own. refl)

  -- an image whose former journal is shut reads as its `journal2`
  reads_alone : (image : Image) (entries : List (List FileText)) → leaves journal_name (image journal_name)
      → ReadsAs image entries → ReadsJournal (image journal2_name) entries
  reads_alone image entries is reads =
      let none = shut_reads (image journal_name) reads.before (retired_shut leaves (image journal_name) retired is) reads.former in
      subst (λ (es : List (List FileText)). ReadsJournal (image journal2_name) es) (sym (reads.are ∙ ap (λ (es : List (List FileText)). es ++ reads.behind) none)) reads.journal

  begins_journal : (image : Image) → IsImage leaves image → image journal2_name ≡ seen journal2_name
      → (entries : List (List FileText)) → ReadsAs image entries → BeginsSo list entries
  begins_journal image is same entries reads =
      journal_begins (seen journal2_name) list entries opens
      (subst (λ (c : List ℕ). ReadsJournal c entries) same (reads_alone image entries (is journal_name) reads))

  -- while they are recovered
  module _ (each : AllByRecursion IsEntry list) (at : ℕ) (stands : IsListAt (seen journal2_name) at) where
    else_former : IsElse journal2_name list journal_name
    else_former = ((λ same. names_apart (sym same)), as_one-own list journal_name (inl refl) each)

    module _ (image : Image) (torn : IsTornWrite at (0 ∷ []) (seen journal2_name) (image journal2_name)) (former : leaves journal_name (image journal_name)) where
      was_former : patched seen journal2_name list image journal_name ≡ image journal_name
      was_former = patched_else seen journal2_name list image journal_name else_former

      was_journal : patched seen journal2_name list image journal2_name ≡ seen journal2_name
      was_journal = patched_this seen journal2_name list image

      still_shut : IsShut (image journal_name)
      still_shut = retired_shut leaves (image journal_name) retired former

      read_before : (entries behind : List (List FileText)) → entries ≡ behind
          → ReadsJournal (seen journal2_name) behind → ReadsAs (patched seen journal2_name list image) entries
      read_before entries behind are journal = record {
        before = [];
        behind = behind;
        are = are;
        former = subst (λ (c : List ℕ). ReadsFormer c []) (sym was_former) (former_read (image journal_name) [] (shut_opens (image journal_name) still_shut));
        journal = subst (λ (c : List ℕ). ReadsJournal c behind) (sym was_journal) journal;
      }

      closes : (entries : List (List FileText)) → ReadsAs image entries
          → ReadsAs (patched seen journal2_name list image) entries
          ⊎ ReadsAs (patched seen journal2_name list image) (list ++ entries)
      closes entries reads = elim (closing_reads_journal (seen journal2_name) (image journal2_name) at entries stands torn (reads_alone image entries former reads)) [
        | inl none ↦ inr (read_before (list ++ entries) list (ap (λ (es : List (List FileText)). list ++ es) none ∙ append-nil list) (journal_read (seen journal2_name) list opens))
        | inr was ↦ inl (read_before entries entries refl was)
      ]

      breaks : IsBroken image → IsBroken (patched seen journal2_name list image)
      breaks (inl broken) = absurd (shut_not_broken (image journal_name) still_shut broken)
      breaks (inr (inl broken)) =
          inr (inl (subst (λ (c : List ℕ). BreaksJournal c) (sym was_journal) (closing_breaks_journal (seen journal2_name) (image journal2_name) at stands torn broken)))
      breaks (inr (inr both)) =
          absurd (let none = shut_reads (image journal_name) (both.one ∷ both.others) still_shut both.former in cc)

    behind_closing : (image : Image)
        → IsBehindBringing leaves journal2_name list (IsTornWrite at (0 ∷ []) (seen journal2_name)) image
        → HasOnly (IsEither files doubt) image
    behind_closing image behind =
        behind_only seen leaves files doubt journal2_name list (inr refl) each seen_is (calm_each seen leaves files doubt calm) begins_journal (IsTornWrite at (0 ∷ []) (seen journal2_name)) image behind
        (closes image behind.this (behind.others journal_name else_former)) (breaks image behind.this (behind.others journal_name else_former))

    pub recovering_only : (image : Image) → IsRecovering seen leaves journal2_name at list image
        → HasOnly (IsEither files doubt) image
    recovering_only image (inl is) = calm_each seen leaves files doubt calm image is
    recovering_only image (inr (inl bringing)) =
        bringing_only seen leaves files doubt journal2_name list (inr refl) each seen_is (calm_each seen leaves files doubt calm) begins_journal image bringing
    recovering_only image (inr (inr behind)) = behind_closing image behind

-- such a disk without an open entry
module _ (seen : Image) (leaves : List ℕ → List ℕ → Type 0) (files : Image) (doubt : Option (List FileText)) (calm : IsCalm seen leaves files doubt) (seen_is : IsImage leaves seen)
    (retired : IsRetired leaves) (opens : OpensJournal (seen journal2_name) []) where
  -- each journal that a crash may leave, over the files that were read
  read_either : (c : List ℕ) (more : List (List FileText)) → leaves journal2_name c → ReadsJournal c more
      → IsEither files doubt (with_entries seen more)
  read_either c more is reads =
      let image = put_journal seen c in
      let read : ReadsAs image more = record { before = []; behind = more; are = refl; former = no_former seen leaves files doubt calm seen_is retired [] opens; journal = reads } in
      either_same files (with_entries image more) (with_entries seen more) doubt (λ file own. with_entries-same more seen image file (sym (put_same seen c file own)))
      (calm.outcomes image (with_entries image more) (put_leaves leaves seen c seen_is is) (more, read, λ file own. refl))

  in_doubt : (later : Option (List FileText))
      → ((outcome : Image) → IsEither files doubt outcome → IsEither seen later outcome)
      → IsHeadInDoubt leaves seen later
  in_doubt later turn = record {
    same = calm_unnamed seen leaves files doubt calm seen_is retired [] opens;
    former = retired;
    journal = λ c is. record {
      not_broken = λ broken. calm.not_broken (own_files (seen journal_name) c) (own_image leaves (seen journal_name) c (seen_is journal_name) is) (inr (inl broken));
      outcomes = λ more reads. turn (with_entries seen more) (read_either c more is reads);
    };
  }

  opened_alone : IsOpened leaves seen []
  opened_alone = by (opened_either seen leaves files doubt calm seen_is retired [] opens)
    where
      by : IsEither files doubt seen → IsOpened leaves seen []
      by (inl same) =
          record {
            later = doubt;
            sure = λ some. absurd (some refl);
            rests = in_doubt doubt (λ outcome either. either_rebased files seen doubt outcome same either);
          }
      by (inr brings) = record {
        later = Some (undone files brings.0);
        sure = λ some. absurd (some refl);
        rests = in_doubt (Some (undone files brings.0))
            (λ outcome either. either_turned files seen brings.0 outcome brings.2 (subst (λ (o : Option (List FileText)). IsEither files o outcome) brings.1 either));
      }

  own_alone : SameFiles files seen → IsHeadInDoubt leaves files doubt
  own_alone same =
      moved_doubt leaves seen files doubt same (in_doubt doubt (λ outcome either. either_rebased files seen doubt outcome (λ file own. sym (same file own)) either))

-- a disk that was only read is as calm as before
pub calm_kept : (seen now : Image) (old new : List ℕ → List ℕ → Type 0) (files : Image) (doubt : Option (List FileText))
    → now ≡ seen → KeepsImages old new → IsCalm seen old files doubt
    → IsCalm now new files doubt
calm_kept seen now old new files doubt same kept calm =
    subst (λ (s : Image). IsCalm s new files doubt) (sym same) (record {
      same = λ file own unopened c is. calm.same file own unopened c ((kept file).no_more c is);
      former = one_gate_kept _ _ _ (old journal_name) (new journal_name) (kept journal_name).no_more calm.former;
      journal = one_gate_kept _ _ _ (old journal2_name) (new journal2_name) (kept journal2_name).no_more calm.journal;
      not_broken = λ image own. calm.not_broken image (λ file is. (kept file).no_more (image file) (own file is));
      outcomes = λ image outcome is has. calm.outcomes image outcome (IsImage-kept old new kept image is) has;
    })

-- what a calm disk leaves while it is read
module _ {D : Type 0} (g : Ghosts D) (old : D) (files : Image) (doubt : Option (List FileText)) (tells : g.tells old ≡ true) (calm : IsCalm (g.seen old) (g.may_leave old) files doubt) where
  pub held : (image : Image) → g.left_since old (g.moment old) image → HasOnly (IsEither files doubt) image
  held image left = calm_each (g.seen old) (g.may_leave old) files doubt calm image (g.only_now old image tells left)

  pub else_read : (mid : D) → OnlyReads g old mid → AddsOnly g old mid (HasOnly (IsEither files doubt))
  else_read mid reads =
      else_weaker _ _ _ (IsImage (g.may_leave old)) (HasOnly (IsEither files doubt)) (reads_leave _ _ _ _ _ (reads.time tells) (reads.images tells))
      (calm_each (g.seen old) (g.may_leave old) files doubt calm)

  pub moments_read : (mid : D) → OnlyReads g old mid → LeavesOnly g old mid (HasOnly (IsEither files doubt))
  moments_read mid reads = meanwhile _ _ _ (HasOnly (IsEither files doubt)) (else_read mid reads) held

  pub calm_read : (mid : D) → OnlyReads g old mid → IsCalm (g.seen mid) (g.may_leave mid) files doubt
  calm_read mid reads =
      calm_kept (g.seen old) (g.seen mid) (g.may_leave old) (g.may_leave mid) files doubt (reads.same tells) (reads.images tells) calm

  pub moments_then : (mid new : D) → OnlyReads g old mid → AddsOnly g mid new (HasOnly (IsEither files doubt))
      → LeavesOnly g old new (HasOnly (IsEither files doubt))
  moments_then mid new reads next =
      meanwhile _ _ _ (HasOnly (IsEither files doubt)) (else_both _ _ _ _ _ (HasOnly (IsEither files doubt)) (else_read mid reads) reads.moment next) held

-- the entries that an opening would find, where the former journal is shut
pub found_behind : (image : Image) (list : List (List FileText)) → IsShut (image journal_name)
    → journal_in (image journal2_name) ≡ Ok list → found_in image ≡ Ok list
found_behind image list shut_now is =
    ap₂ (λ (a b : Result (List (List FileText)) JournalFault). with_former a b) (former_is (image journal_name) [] (shut_opens (image journal_name) shut_now)) is

-- open entries that were recovered
module _ {D : Type 0} (g : Ghosts D) (old new : D) (tells : g.tells old ≡ true) (told : g.tells new ≡ true) (retired : IsRetired (g.may_leave old)) (files : Image) (doubt : Option (List FileText))
    (calm : IsCalm (g.seen old) (g.may_leave old) files doubt) (at : ℕ) (list : List (List FileText)) (each : AllByRecursion IsEntry list) (opens : OpensJournal (g.seen old journal2_name) list)
    (stands : IsListAt (g.seen old journal2_name) at) where
  was_is : IsImage (g.may_leave old) (g.seen old)
  was_is = g.read_is_image old tells

  pub recovering_moments : (r : Result Unit Failed) → Recovers g old new r journal2_name at list
      → AddsOnly g old new (HasOnly (IsEither files doubt))
  recovering_moments r recovers =
      else_weaker _ _ _ (IsRecovering (g.seen old) (g.may_leave old) journal2_name at list) (HasOnly (IsEither files doubt)) recovers.time
      (recovering_only (g.seen old) (g.may_leave old) files doubt calm was_is retired list opens each at stands)

  module _ (recovers : Recovers g old new (Ok tt) journal2_name at list) where
    now_is : IsImage (g.may_leave new) (g.seen new)
    now_is = g.read_is_image new told

    former_else : IsElse journal2_name list journal_name
    former_else = ((λ same. names_apart (sym same)), as_one-own list journal_name (inl refl) each)

    rest_else : (file : List ℕ) → ¬ IsOwnFile file → content_in (as_one list) file ≡ None
        → IsElse journal2_name list file
    rest_else file own none = ((λ same. own (inr same)), none)

    retired_still : IsRetired (g.may_leave new)
    retired_still =
        retired_kept (g.may_leave old) (g.may_leave new) (recovers.kept.images journal_name former_else).no_more retired

    -- all files have their contents
    all_there : (file : List ℕ) → ¬ IsOwnFile file → Only (with_entries (g.seen old) list file) (g.may_leave new file)
    all_there file own c is = elim (content_cases (as_one list) file) [
      | inl none ↦ calm_unnamed (g.seen old) (g.may_leave old) files doubt calm was_is retired list opens file own none c ((recovers.kept.images file (rest_else file own none)).no_more c is)
          ∙ sym (with_entries-as_one list (g.seen old) file ∙ ap (λ (o : Option (List ℕ)). unwrap_or o (g.seen old file)) none)
      | inr some ↦ recovers.brought file some.0 some.1 c is
          ∙ sym (with_entries-as_one list (g.seen old) file ∙ ap (λ (o : Option (List ℕ)). unwrap_or o (g.seen old file)) some.1)
    ]

    holds_none : (c : List ℕ) → g.may_leave new journal2_name c → HoldsNone c
    holds_none c is =
        subst HoldsNone (sym (recovers.closed c is)) (closed_holds_none (g.seen old journal2_name) at stands)

    settled_now : (later : Option (List FileText))
        → IsHeadInDoubt (g.may_leave new) (with_entries (g.seen old) list) later
    settled_now later = record {
      same = λ file own none. all_there file own;
      former = retired_still;
      journal = λ c is. none_gives (with_entries (g.seen old) list) later c (holds_none c is);
    }

    behind_now : (image : Image) → IsImage (g.may_leave new) image
        → IsBehindBringing (g.may_leave old) journal2_name list (IsTornWrite at (0 ∷ []) (g.seen old journal2_name)) image
    behind_now image is = record {
      this =
          subst (λ (c : List ℕ). IsTornWrite at (0 ∷ []) (g.seen old journal2_name) c) (sym (recovers.closed (image journal2_name) (is journal2_name)))
          (IsTornWrite-whole (g.seen old journal2_name) at (0 ∷ []) stands.there);
      named = λ other bytes some. recovers.brought other bytes some (image other) (is other);
      others = λ other apart. (recovers.kept.images other apart).no_more (image other) (is other);
    }

    calm_recovered : IsCalm (g.seen new) (g.may_leave new) files doubt
    calm_recovered =
        calm_from (g.seen new) (g.may_leave new) files doubt
        (λ file own unopened c is. all_there file own c is ∙ sym (all_there file own (g.seen new file) (now_is file)))
        (retired_gate (g.may_leave new) (HasGate plain (g.seen new journal_name)) (g.seen new journal_name) ([], refl) retired_still)
        (one_image_gate (HasJournalGate (g.seen new journal2_name)) head_start (g.seen new journal2_name) (g.may_leave new journal2_name) (inl refl) (omega arith)
        (λ c is. recovers.closed c is ∙ sym (recovers.closed (g.seen new journal2_name) (now_is journal2_name)))) now_is
        (λ image is. behind_closing (g.seen old) (g.may_leave old) files doubt calm was_is retired list opens each at stands image (behind_now image is))

    found_before : found_in (g.seen old) ≡ Ok list
    found_before =
        found_behind (g.seen old) list (retired_shut (g.may_leave old) (g.seen old journal_name) retired (was_is journal_name)) (journal_is (g.seen old journal2_name) list opens)

    found_now : found_in (g.seen new) ≡ Ok []
    found_now =
        found_behind (g.seen new) [] (retired_shut (g.may_leave new) (g.seen new journal_name) retired_still (now_is journal_name))
        (none_is (g.seen new journal2_name) (holds_none (g.seen new journal2_name) (now_is journal2_name)))

    stays_found : StaysFound g old new
    stays_found =
        let opened_now = ap entries_found found_now in
        let opened_then = ap entries_found found_before in
        let same : SameFiles (g.seen new) (opened_files (g.seen old)) = λ file own.
        all_there file own (g.seen new file) (now_is file) ∙ sym (ap (λ (es : List (List FileText)). with_entries (g.seen old) es file) opened_then) in
        record {
          found = λ file own. ap (λ (es : List (List FileText)). with_entries (g.seen new) es file) opened_now ∙ same file own;
          shown = inr same;
        }

    pub opens_recovered : OpensCalm g old new (Ok list) files doubt
    opens_recovered = record {
      files = opened_either (g.seen old) (g.may_leave old) files doubt calm was_is retired list opens;
      opened = record { later = None; sure = λ some. refl; rests = settled_now None };
      own = λ same. moved_doubt (g.may_leave new) (with_entries (g.seen old) list) files doubt same (settled_now doubt);
      calm_still = λ other. calm_recovered;
      stays = λ other. inr stays_found;
      any_moment = meanwhile _ _ _ (HasOnly (IsEither files doubt)) (recovering_moments (Ok tt) recovers) (held g old files doubt tells calm);
    }

-- and a disk that was only read
module _ {D : Type 0} (g : Ghosts D) (old : D) (files : Image) (doubt : Option (List FileText)) (tells : g.tells old ≡ true) (calm : IsCalm (g.seen old) (g.may_leave old) files doubt) where
  opens_nothing : (new : D) → OnlyReads g old new → IsRetired (g.may_leave old)
      → OpensJournal (g.seen old journal2_name) [] → OpensCalm g old new (Ok []) files doubt
  opens_nothing new reads retired opens =
      let same = reads.same tells in
      let told = reads.tells ∙ tells in
      let calm_now = calm_read g old files doubt tells calm new reads in
      let retired_now = retired_kept (g.may_leave old) (g.may_leave new) (reads.images tells journal_name).no_more retired in
      let opens_now = subst (λ (s : Image). OpensJournal (s journal2_name) []) (sym same) opens in
      record {
        files = opened_either (g.seen old) (g.may_leave old) files doubt calm (g.read_is_image old tells) retired [] opens;
        opened = subst (λ (s : Image). IsOpened (g.may_leave new) s []) same (opened_alone (g.seen new) (g.may_leave new) files doubt calm_now (g.read_is_image new told) retired_now opens_now);
        own = λ is. own_alone (g.seen new) (g.may_leave new) files doubt calm_now (g.read_is_image new told) retired_now opens_now (subst (λ (s : Image). SameFiles files s) (sym same) is);
        calm_still = λ other. calm_now;
        stays = λ other. inl reads;
        any_moment = moments_read g old files doubt tells calm new reads;
      }

  opens_refused : (new : D) (fault : JournalFault) → OnlyReads g old new → OpensCalm g old new (Err fault) files doubt
  opens_refused new fault reads = record {
    files = tt;
    opened = tt;
    own = tt;
    calm_still = λ other. calm_read g old files doubt tells calm new reads;
    stays = λ other. inl reads;
    any_moment = moments_read g old files doubt tells calm new reads;
  }

  -- a disk that was read, and whose open entries were recovered then
  opens_then : (mid new : D) (list : List (List FileText)) → OnlyReads g old mid
      → OpensCalm g mid new (Ok list) files doubt → OpensCalm g old new (Ok list) files doubt
  opens_then mid new list reads opens =
      let same = reads.same tells in
      record {
        files = subst (λ (s : Image). IsEither files doubt (with_entries s list)) same opens.files;
        opened = subst (λ (s : Image). IsOpened (g.may_leave new) (with_entries s list) list) same opens.opened;
        own = subst (λ (s : Image). SameFiles files (with_entries s list) → IsHeadInDoubt (g.may_leave new) files doubt) same opens.own;
        calm_still = opens.calm_still;
        stays = λ other. elim (opens.stays other) [
          | inl only ↦ inl (OnlyReads-then g old mid new reads only)
          | inr found ↦ inr (record {
            found = subst (λ (s : Image). SameFiles (opened_files (g.seen new)) (opened_files s)) same found.found;
            shown = subst (λ (s : Image). SameFiles (g.seen new) s ⊎ SameFiles (g.seen new) (opened_files s)) same found.shown;
          })
        ];
        any_moment = moments_then g old files doubt tells calm mid new reads opens.any_moment.earlier;
      }

  opens_failed : (mid new : D) → OnlyReads g old mid → AddsOnly g mid new (HasOnly (IsEither files doubt))
      → OpensCalm g old new (Err DiskFault) files doubt
  opens_failed mid new reads next = record {
    files = tt;
    opened = tt;
    own = tt;
    calm_still = λ other. absurd (other refl);
    stays = λ other. absurd (other refl);
    any_moment = moments_then g old files doubt tells calm mid new reads next;
  }

-- ---- what the opening of `journal2` answers

pub list_cases : (list : List (List FileText)) → (list ≡ []) ⊎ (list ≢ [])
list_cases [] = inl refl
list_cases (entry ∷ list) = inr (λ none. cc)

pub refused_items : (fault : JournalFault) (result : Result (Vec (List FileText)) JournalFault)
    → IsErrAnd result (λ e. e ≡ fault) → items_of result ≡ Err fault
refused_items fault (Ok list) err = absurd err
refused_items fault (Err e) err = ap Err err

-- one that was refused
pub behind_refused : {D : Type 0} (g : Ghosts D) (old new : D) (fault : JournalFault) → OnlyReads g old new
    → (g.tells old ≡ true → (at : ℕ) → fault ≡ BadJournal at → journal_in (g.seen old journal2_name) ≡ Err (BadJournal at))
    → (g.tells old ≡ true → (version : ℕ) → fault ≡ UnknownVersion version → journal_in (g.seen old journal2_name) ≡ Err (UnknownVersion version))
    → (fault ≡ DiskFault → HasRisen (g.faults old) (g.faults new)) → OpensBehind g old new (Err fault)
behind_refused g old new fault reads bad unknown cause = record {
  entries = tt;
  good = λ tells. tt;
  bad = λ tells at is. bad tells at (cc);
  unknown = λ tells version is. unknown tells version (cc);
  leaves = λ retired tells files doubt calm. opens_refused g old files doubt tells calm new fault reads;
  former = λ tells c is. (reads.images tells journal_name).no_more c is;
  none = λ tells is. reads;
  kept = λ tells other. reads;
  stays = λ tells other is. reads;
  goes = OnlyReads-goes_on g old new reads;
  cause = λ is. cause (cc);
}

-- one without an open entry
pub behind_none : {D : Type 0} (g : Ghosts D) (old new : D) → OnlyReads g old new
    → (g.tells old ≡ true → journal_in (g.seen old journal2_name) ≡ Ok []) → OpensBehind g old new (Ok [])
behind_none g old new reads found = record {
  entries = tt;
  good = found;
  bad = λ tells at is. absurd (cc);
  unknown = λ tells version is. absurd (cc);
  leaves = λ retired tells files doubt calm. opens_nothing g old files doubt tells calm new reads retired (journal_opens (g.seen old journal2_name) [] (found tells));
  former = λ tells c is. (reads.images tells journal_name).no_more c is;
  none = λ tells is. reads;
  kept = λ tells. tt;
  stays = λ tells fault is. reads;
  goes = OnlyReads-goes_on g old new reads;
  cause = λ is. absurd (cc);
}

-- one with open entries
module _ {D : Type 0} (g : Ghosts D) (old mid new : D) (at : ℕ) (list : List (List FileText)) (reads : OnlyReads g old mid) (each : AllByRecursion IsEntry list) (some : list ≢ [])
    (found : g.tells old ≡ true → journal_in (g.seen old journal2_name) ≡ Ok list) (stands : g.tells old ≡ true → IsListAt (g.seen old journal2_name) at) (goes : GoesOn g mid new) where
  mid_opens : g.tells old ≡ true → OpensJournal (g.seen mid journal2_name) list
  mid_opens tells =
      subst (λ (s : Image). OpensJournal (s journal2_name) list) (sym (reads.same tells)) (journal_opens (g.seen old journal2_name) list (found tells))

  mid_stands : g.tells old ≡ true → IsListAt (g.seen mid journal2_name) at
  mid_stands tells = subst (λ (s : Image). IsListAt (s journal2_name) at) (sym (reads.same tells)) (stands tells)

  mid_retired : g.tells old ≡ true → IsRetired (g.may_leave old) → IsRetired (g.may_leave mid)
  mid_retired tells retired =
      retired_kept (g.may_leave old) (g.may_leave mid) (reads.images tells journal_name).no_more retired

  former_kept : (r : Result Unit Failed) → g.tells old ≡ true → Recovers g mid new r journal2_name at list
      → (c : List ℕ) → g.may_leave new journal_name c → g.may_leave old journal_name c
  former_kept r tells recovers c is =
      (reads.images tells journal_name).no_more c
      ((recovers.kept.images journal_name ((λ same. names_apart (sym same)), as_one-own list journal_name (inl refl) each)).no_more c is)

  not_none : g.tells old ≡ true → ¬ (journal_in (g.seen old journal2_name) ≡ Ok [])
  not_none tells none = let both = sym (found tells) ∙ none in some (cc)

  not_bad : g.tells old ≡ true → (fault : JournalFault) → ¬ (journal_in (g.seen old journal2_name) ≡ Err fault)
  not_bad tells fault bad = let both = sym (found tells) ∙ bad in cc

  -- that were recovered
  pub behind_all : (g.tells mid ≡ true → Recovers g mid new (Ok tt) journal2_name at list)
      → OpensBehind g old new (Ok list)
  behind_all recovers = record {
    entries = each;
    good = found;
    bad = λ tells place is. absurd (cc);
    unknown = λ tells version is. absurd (cc);
    leaves = λ retired tells files doubt calm.
        let tells_mid = reads.tells ∙ tells in
        opens_then g old files doubt tells calm mid new list reads
        (opens_recovered g mid new tells_mid (goes.tells ∙ tells_mid) (mid_retired tells retired) files doubt (calm_read g old files doubt tells calm mid reads) at list each (mid_opens tells)
        (mid_stands tells) (recovers tells_mid));
    former = λ tells. former_kept (Ok tt) tells (recovers (reads.tells ∙ tells));
    none = λ tells is. absurd (not_none tells is);
    kept = λ tells. tt;
    stays = λ tells fault is. absurd (not_bad tells fault is);
    goes = GoesOn-then g old mid new (OnlyReads-goes_on g old mid reads) goes;
    cause = λ is. absurd (cc);
  }

  -- or not, where the disk failed
  pub behind_failed : (r : Result Unit Failed) → (g.tells mid ≡ true → Recovers g mid new r journal2_name at list)
      → HasRisen (g.faults mid) (g.faults new) → OpensBehind g old new (Err DiskFault)
  behind_failed r recovers risen = record {
    entries = tt;
    good = λ tells. tt;
    bad = λ tells place is. absurd (cc);
    unknown = λ tells version is. absurd (cc);
    leaves = λ retired tells files doubt calm.
        let tells_mid = reads.tells ∙ tells in
        opens_failed g old files doubt tells calm mid new reads
        (recovering_moments g mid new tells_mid (goes.tells ∙ tells_mid) (mid_retired tells retired) files doubt (calm_read g old files doubt tells calm mid reads) at list each (mid_opens tells)
        (mid_stands tells) r (recovers tells_mid));
    former = λ tells. former_kept r tells (recovers (reads.tells ∙ tells));
    none = λ tells is. absurd (not_none tells is);
    kept = λ tells other. absurd (other refl);
    stays = λ tells fault is. absurd (not_bad tells fault is);
    goes = GoesOn-then g old mid new (OnlyReads-goes_on g old mid reads) goes;
    cause = λ is. risen_since (g.faults old) (g.faults mid) (g.faults new) reads.later risen;
  }
