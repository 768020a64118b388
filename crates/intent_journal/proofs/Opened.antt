-- What the opening of a journal tells of the disk that it was handed, and what stays known of a disk that is only read.
use Rattle.std.proofs.Common.{◌≡◌, ◌≢◌, ◌⊎◌, ℕ, List, [], true, Option, Some, Result, Ok, Err, refl, sym, ap, ap₂, ◌∙◌, subst}
use Rattle.std.specs.Prelude.{IfOk, IfErr, OnOk}
use Rattle.std.proofs.lemmas.Option.{none-some}
use Rattle.kdb_outside.specs.declared.disks.Disk.{Ghosts}
use Rattle.kdb_outside.specs.Faults.{HasRisen}
use Rattle.kdb_outside.specs.Frames.{OnlyReads}
use Rattle.kdb_outside.specs.Images.{Image, IsImage, KeepsImages}
use Rattle.journal_codec.specs.declared.files.FileText.{FileText}
use Rattle.journal_codec.specs.Entry.{journal_name, journal2_name}
use Rattle.journal_lists.specs.Journals.{former_in, journal_in}
use Rattle.journal_lists.proofs.Journals.{former_opens, former_read, journal_opens, journal_read}
use Rattle.journal_steps.specs.declared.faults.JournalFault.TheVariants.{DiskFault, BadJournal, UnknownVersion, Memory}
use Rattle.journal_steps.specs.declared.faults.JournalFault.{JournalFault}
use Rattle.journal_steps.specs.declared.faults.JournalRefused.{JournalRefused}
use Rattle.journal_steps.specs.Moments.{LeavesOnly}
use Rattle.journal_steps.specs.Outcomes.{with_entries, SameFiles, IsEither}
use Rattle.intent_journal.specs.Journal.{JournalValue}
use Rattle.intent_journal.specs.Opened.{with_former, found_in, entries_found, place_of, version_in, told_by, bad_place, unknown_version, open_list, opened_files, HasNoFormer, IsKept, IsFresh}
use Rattle.intent_journal.specs.Openings.{StaysFound, OpensCalm, LeavesRetired, OpensList}
use Rattle.intent_journal.specs.Opens.{disk_of, fault_of, has_any, Answers, OpensJournal, HoldsOpened}
use Rattle.intent_journal.specs.Outcomes.{IsBroken, ReadsAs, HasOnly}
use Rattle.intent_journal.specs.States.{IsRetired, IsListed, IsInDoubt, IsBare, IsHeadInDoubt, IsCalm}
use Rattle.intent_journal.proofs.Images.{head_only}
use Rattle.intent_journal.proofs.Readings.{found_breaks}
use Rattle.intent_journal.proofs.Retired.{retired_kept}

-- ---- what is read

pub open_list_is : (seen : Image) (list : List (List FileText)) → found_in seen ≡ Ok list → open_list seen ≡ list
open_list_is seen list is = ap entries_found is

-- what is read in an image that isn't broken is one of its readings
found_reads : (seen : Image) (list : List (List FileText)) → found_in seen ≡ Ok list → ReadsAs seen list
found_reads seen list is = by (former_in (seen journal_name)) refl (journal_in (seen journal2_name)) refl
  where
    by : (former : Result (List (List FileText)) JournalFault) → former_in (seen journal_name) ≡ former
        → (behind : Result (List (List FileText)) JournalFault)
        → journal_in (seen journal2_name) ≡ behind → ReadsAs seen list
    by (Err fault) first behind second =
        absurd (let both = sym (ap (λ (r : Result (List (List FileText)) JournalFault). with_former r (journal_in (seen journal2_name))) first) ∙ is in cc)
    by (Ok before) first (Err fault) second = absurd (let both = sym (ap₂ with_former first second) ∙ is in cc)
    by (Ok before) first (Ok behind) second = record {
      before = before;
      behind = behind;
      are = sym (ap entries_found (sym (ap₂ with_former first second) ∙ is));
      former = former_read (seen journal_name) before (former_opens (seen journal_name) before first);
      journal = journal_read (seen journal2_name) behind (journal_opens (seen journal2_name) behind second);
    }

pub opening_reads : (seen : Image) → ¬ IsBroken seen → ReadsAs seen (open_list seen)
opening_reads seen whole = by (found_in seen) refl
  where
    by : (r : Result (List (List FileText)) JournalFault) → found_in seen ≡ r → ReadsAs seen (entries_found r)
    by (Ok list) is = found_reads seen list is
    by (Err fault) is = absurd (whole (found_breaks seen fault is))

-- ---- calm disks

-- the open entries of a calm disk can be read
pub calm_reads : (seen : Image) (leaves : List ℕ → List ℕ → Type 0) (files : Image) (doubt : Option (List FileText))
    → IsCalm seen leaves files doubt → IsImage leaves seen
    → (list : List (List FileText)) × (found_in seen ≡ Ok list)
calm_reads seen leaves files doubt calm seen_is = by (found_in seen) refl
  where
    by : (r : Result (List (List FileText)) JournalFault) → found_in seen ≡ r
        → (list : List (List FileText)) × (found_in seen ≡ Ok list)
    by (Ok list) is = (list, is)
    by (Err fault) is = absurd (calm.not_broken seen (λ file own. seen_is file) (found_breaks seen fault is))

-- and the files with them are those of the disk, or those with its entry
pub calm_found : (seen : Image) (leaves : List ℕ → List ℕ → Type 0) (files : Image) (doubt : Option (List FileText))
    (list : List (List FileText)) → IsCalm seen leaves files doubt → IsImage leaves seen
    → found_in seen ≡ Ok list → IsEither files doubt (with_entries seen list)
calm_found seen leaves files doubt list calm seen_is found =
    calm.outcomes seen (with_entries seen list) seen_is (list, found_reads seen list found, λ file own. refl)

pub calm_files : (seen : Image) (leaves : List ℕ → List ℕ → Type 0) (files : Image) (doubt : Option (List FileText))
    → IsCalm seen leaves files doubt → IsImage leaves seen
    → IsEither files doubt (opened_files seen)
calm_files seen leaves files doubt calm seen_is =
    let read = calm_reads seen leaves files doubt calm seen_is in
    subst (λ (list : List (List FileText)). IsEither files doubt (with_entries seen list)) (sym (open_list_is seen read.0 read.1)) (calm_found seen leaves files doubt read.0 calm seen_is read.1)

-- a calm disk is calm with the files and the doubt that it is known to have
pub calm_rebased : (seen : Image) (leaves : List ℕ → List ℕ → Type 0) (files opened : Image)
    (doubt later : Option (List FileText)) → IsCalm seen leaves files doubt → IsHeadInDoubt leaves opened later
    → IsCalm seen leaves opened later
calm_rebased seen leaves files opened doubt later calm state = record {
  same = calm.same;
  former = calm.former;
  journal = calm.journal;
  not_broken = calm.not_broken;
  outcomes = λ image outcome is has. (head_only leaves opened later state image is).each outcome has;
}

-- ---- a disk that is only read

module _ (old new : List ℕ → List ℕ → Type 0) (kept : KeepsImages old new) where
  pub retired_read : IsRetired old → IsRetired new
  retired_read = retired_kept old new (kept journal_name).no_more

  pub listed_read : (names : List (List ℕ)) (before : Image) (entries : List (List FileText))
      → IsListed old names before entries → IsListed new names before entries
  listed_read names before entries state = record {
    same = λ file own none c is. state.same file own none c ((kept file).no_more c is);
    former = retired_read state.former;
    header = state.header;
    fits = state.fits;
    journal = λ c is. state.journal c ((kept journal2_name).no_more c is);
  }

  pub doubt_read : (names : List (List ℕ)) (before : Image) (entries : List (List FileText))
      (doubt : Option (List FileText)) → IsInDoubt old names before entries doubt
      → IsInDoubt new names before entries doubt
  doubt_read names before entries doubt state = record {
    same = λ file own none c is. state.same file own none c ((kept file).no_more c is);
    former = retired_read state.former;
    header = state.header;
    fits = state.fits;
    journal = λ c is. state.journal c ((kept journal2_name).no_more c is);
  }

  pub bare_read : (files : Image) → IsBare old files → IsBare new files
  bare_read files state = record {
    same = λ file own none c is. state.same file own none c ((kept file).no_more c is);
    former = retired_read state.former;
    journal = λ c is. state.journal c ((kept journal2_name).no_more c is);
  }

  pub head_read : (files : Image) (doubt : Option (List FileText)) → IsHeadInDoubt old files doubt
      → IsHeadInDoubt new files doubt
  head_read files doubt state = record {
    same = λ file own none c is. state.same file own none c ((kept file).no_more c is);
    former = retired_read state.former;
    journal = λ c is. state.journal c ((kept journal2_name).no_more c is);
  }

-- ---- what an opening answers

module _ {D : Type 0} (g : Ghosts D) (disk : D) where
  good_by : (result : Result (JournalValue D) (JournalRefused D)) (found : Result (List (List FileText)) JournalFault)
      → Answers result found → OpensList g disk (disk_of result) found → g.tells disk ≡ true
      → OnOk result (found_in (g.seen disk) ≡ Ok (open_list (g.seen disk)))
  good_by (Ok journal) (Ok list) answers opens tells =
      let read = opens.good tells in read ∙ ap Ok (sym (open_list_is (g.seen disk) list read))
  good_by (Ok journal) (Err fault) answers opens tells = absurd answers
  good_by (Err refused) found answers opens tells = tt

  -- why it was refused
  refused_by : (result : Result (JournalValue D) (JournalRefused D))
      (found : Result (List (List FileText)) JournalFault) (fault : JournalFault) → Answers result found
      → fault_of result ≡ Some fault → found ≡ Err fault
  refused_by (Ok journal) found fault answers is = absurd (none-some fault is)
  refused_by (Err refused) (Ok list) fault answers is = absurd answers
  refused_by (Err refused) (Err other) fault answers is = cc

  not_refused_by : (result : Result (JournalValue D) (JournalRefused D))
      (found : Result (List (List FileText)) JournalFault) (fault : JournalFault) → Answers result found
      → fault_of result ≢ Some fault
      → found ≢ Err fault
  not_refused_by (Ok journal) (Ok list) fault answers other is = cc
  not_refused_by (Ok journal) (Err third) fault answers other is = absurd answers
  not_refused_by (Err refused) (Ok list) fault answers other is = absurd answers
  not_refused_by (Err refused) (Err third) fault answers other is = other (cc)

  fresh_by : (result : Result (JournalValue D) (JournalRefused D)) (found : Result (List (List FileText)) JournalFault)
      → Answers result found → IfOk result IsFresh
  fresh_by (Ok journal) (Ok list) answers = answers.0
  fresh_by (Ok journal) (Err fault) answers = absurd answers
  fresh_by (Err refused) found answers = tt

  recovered_by : (result : Result (JournalValue D) (JournalRefused D))
      (found : Result (List (List FileText)) JournalFault) → Answers result found
      → OpensList g disk (disk_of result) found → g.tells disk ≡ true
      → IfOk result (λ journal. journal.recovered ≡ has_any (open_list (g.seen disk)))
  recovered_by (Ok journal) (Ok list) answers opens tells =
      answers.1 ∙ ap has_any (sym (open_list_is (g.seen disk) list (opens.good tells)))
  recovered_by (Ok journal) (Err fault) answers opens tells = absurd answers
  recovered_by (Err refused) found answers opens tells = tt

  -- what is known of a disk that was handed back, for the fault
  if_refused : (P : JournalFault → D → Type 0) (result : Result (JournalValue D) (JournalRefused D))
      (found : Result (List (List FileText)) JournalFault) → Answers result found
      → IfErr found (λ fault. P fault (disk_of result)) → IfErr result (λ refused. P refused.fault refused.disk)
  if_refused P (Ok journal) found answers holds = tt
  if_refused P (Err refused) (Ok list) answers holds = absurd answers
  if_refused P (Err refused) (Err fault) answers holds =
      subst (λ (f : JournalFault). P f refused.disk) (sym answers) holds

  -- and of one that a journal is over
  if_opened : (P : D → Type 0) (result : Result (JournalValue D) (JournalRefused D))
      (found : Result (List (List FileText)) JournalFault) → Answers result found
      → IfOk found (λ list. P (disk_of result)) → IfOk result (λ journal. P journal.disk)
  if_opened P (Ok journal) (Ok list) answers holds = holds
  if_opened P (Ok journal) (Err fault) answers holds = absurd answers
  if_opened P (Err refused) found answers holds = tt

  holds_by : (result : Result (JournalValue D) (JournalRefused D)) (found : Result (List (List FileText)) JournalFault)
      (files : Image) (doubt : Option (List FileText)) → Answers result found
      → OpensList g disk (disk_of result) found → g.tells disk ≡ true
      → OpensCalm g disk (disk_of result) found files doubt → IfOk result (HoldsOpened g disk)
  holds_by (Ok journal) (Ok list) files doubt answers opens tells left =
      let is = open_list_is (g.seen disk) list (opens.good tells) in
      let opened = left.opened in
      let rests =
      subst (λ (es : List (List FileText)). IsHeadInDoubt (g.may_leave journal.disk) (with_entries (g.seen disk) es) opened.later) (sym is) opened.rests in
      record {
        later = opened.later;
        may_be = λ some. opened.sure (λ none. some (is ∙ none));
        rests = rests;
        calm = calm_rebased (g.seen journal.disk) (g.may_leave journal.disk) files (opened_files (g.seen disk)) doubt opened.later (left.calm_still (λ bad. absurd (cc))) rests;
      }
  holds_by (Ok journal) (Err fault) files doubt answers opens tells left = absurd answers
  holds_by (Err refused) found files doubt answers opens tells left = tt

  own_by : (result : Result (JournalValue D) (JournalRefused D)) (found : Result (List (List FileText)) JournalFault)
      (files : Image) (doubt : Option (List FileText)) → Answers result found
      → OpensList g disk (disk_of result) found → g.tells disk ≡ true
      → OpensCalm g disk (disk_of result) found files doubt
      → SameFiles files (opened_files (g.seen disk))
      → IfOk result (λ journal. IsHeadInDoubt (g.may_leave journal.disk) files doubt)
  own_by (Ok journal) (Ok list) files doubt answers opens tells left same =
      left.own (subst (λ (es : List (List FileText)). SameFiles files (with_entries (g.seen disk) es)) (open_list_is (g.seen disk) list (opens.good tells)) same)
  own_by (Ok journal) (Err fault) files doubt answers opens tells left same = absurd answers
  own_by (Err refused) found files doubt answers opens tells left same = tt

  module _ (result : Result (JournalValue D) (JournalRefused D)) (opens : OpensJournal g disk result) where
    -- no entry waits, and the header gate is in doubt
    pub opened_fresh : IfOk result IsFresh
    opened_fresh = fresh_by result opens.found opens.answers

    pub opened_cause : fault_of result ≡ Some DiskFault → HasRisen (g.faults disk) (g.faults (disk_of result))
    opened_cause is = opens.opens.cause (refused_by result opens.found DiskFault opens.answers is)

    module _ (tells : g.tells disk ≡ true) where
      -- what was open was whole
      pub opened_good : OnOk result (found_in (g.seen disk) ≡ Ok (open_list (g.seen disk)))
      opened_good = good_by result opens.found opens.answers opens.opens tells

      -- or where the first part wasn't, or which version it is of
      pub opened_bad : (at : ℕ) → fault_of result ≡ Some (BadJournal at) → bad_place (g.seen disk) ≡ Some at
      opened_bad at is =
          ap (told_by place_of) (opens.opens.bad tells at (refused_by result opens.found (BadJournal at) opens.answers is))

      pub opened_unknown : (version : ℕ) → fault_of result ≡ Some (UnknownVersion version)
          → unknown_version (g.seen disk) ≡ Some version
      opened_unknown version is =
          ap (told_by version_in) (opens.opens.unknown tells version (refused_by result opens.found (UnknownVersion version) opens.answers is))

      pub opened_recovered : IfOk result (λ journal. journal.recovered ≡ has_any (open_list (g.seen disk)))
      opened_recovered = recovered_by result opens.found opens.answers opens.opens tells

      -- where the disk is only read
      pub opened_reads : HasNoFormer (g.seen disk) → open_list (g.seen disk) ≡ [] → OnlyReads g disk (disk_of result)
      opened_reads = opens.opens.none tells

      pub opened_kept : IsKept (g.seen disk)
          → IfErr result (λ refused. refused.fault ≢ DiskFault → OnlyReads g disk refused.disk)
      opened_kept kept =
          if_refused (λ fault left. fault ≢ DiskFault → OnlyReads g disk left) result opens.found opens.answers (opens.opens.kept tells kept)

      pub opened_stays : (fault : JournalFault) → found_in (g.seen disk) ≡ Err fault → IsKept (g.seen disk)
          → OnlyReads g disk (disk_of result)
      opened_stays = opens.opens.stays tells

      -- and where the former journal is retired
      pub opened_retired : ¬ HasNoFormer (g.seen disk) → IfOk result (λ journal. IsRetired (g.may_leave journal.disk))
      opened_retired some =
          if_opened (λ left. IsRetired (g.may_leave left)) result opens.found opens.answers (opens.opens.retired tells some)

      pub opened_retires : ¬ IsKept (g.seen disk)
          → IfErr result (λ refused. refused.fault ≢ DiskFault → refused.fault ≢ Memory → LeavesRetired g disk refused.disk)
      opened_retires not_kept =
          if_refused (λ fault left. fault ≢ DiskFault → fault ≢ Memory → LeavesRetired g disk left) result opens.found opens.answers (opens.opens.retires tells not_kept)

      module _ (files : Image) (doubt : Option (List FileText)) (calm : IsCalm (g.seen disk) (g.may_leave disk) files doubt) where
        left : OpensCalm g disk (disk_of result) opens.found files doubt
        left = opens.opens.leaves tells files doubt calm

        -- a calm disk is opened with the files that are read
        pub opened_either : IsEither files doubt (opened_files (g.seen disk))
        opened_either = calm_files (g.seen disk) (g.may_leave disk) files doubt calm (g.read_is_image disk tells)

        pub opened_holds : IfOk result (HoldsOpened g disk)
        opened_holds = holds_by result opens.found files doubt opens.answers opens.opens tells left

        -- and stays as calm as it was, and what an opening finds
        pub opened_calm : fault_of result ≢ Some DiskFault
            → IsCalm (g.seen (disk_of result)) (g.may_leave (disk_of result)) files doubt
        opened_calm other = left.calm_still (not_refused_by result opens.found DiskFault opens.answers other)

        pub opened_left : fault_of result ≢ Some DiskFault
            → OnlyReads g disk (disk_of result) ⊎ StaysFound g disk (disk_of result)
        opened_left other = left.stays (not_refused_by result opens.found DiskFault opens.answers other)

        pub opened_own : SameFiles files (opened_files (g.seen disk))
            → IfOk result (λ journal. IsHeadInDoubt (g.may_leave journal.disk) files doubt)
        opened_own = own_by result opens.found files doubt opens.answers opens.opens tells left

        pub opened_meanwhile : LeavesOnly g disk (disk_of result) (HasOnly (IsEither files doubt))
        opened_meanwhile = left.any_moment

        never : (fault : JournalFault) → ¬ (found_in (g.seen disk) ≡ Err fault)
        never fault is =
            calm.not_broken (g.seen disk) (λ file own. g.read_is_image disk tells file) (found_breaks (g.seen disk) fault is)

        pub opened_never_bad : (at : ℕ) → fault_of result ≡ Some (BadJournal at) → ⊥
        opened_never_bad at is =
            never (BadJournal at) (opens.opens.bad tells at (refused_by result opens.found (BadJournal at) opens.answers is))

        pub opened_never_unknown : (version : ℕ) → fault_of result ≡ Some (UnknownVersion version) → ⊥
        opened_never_unknown version is =
            never (UnknownVersion version) (opens.opens.unknown tells version (refused_by result opens.found (UnknownVersion version) opens.answers is))

-- what is read behind an opening are the files that it leaves
pub opened_shown : {D : Type 0} (g : Ghosts D) (disk : D) (journal : JournalValue D) → g.tells journal.disk ≡ true
    → HoldsOpened g disk journal → SameFiles (g.seen journal.disk) (opened_files (g.seen disk))
opened_shown g disk journal tells holds file own =
    holds.rests.same file own refl (g.seen journal.disk file) (g.read_is_image journal.disk tells file)
