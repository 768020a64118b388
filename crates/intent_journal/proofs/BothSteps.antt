-- What the opening of both files of a journal finds and leaves: that of `journal2`, behind the retiring of the former
-- one.
use Rattle.std.proofs.Common.{◌≡◌, ◌≢◌, ◌⊎◌, inl, inr, ℕ, ◌≤◌, List, [], ◌∷◌, ◌++◌, Bool, true, false, ◌||◌, not, length, Option, None, Result, Ok, Err, refl, sym, ap, ap₂, ◌∙◌, subst, arith}
use Rattle.std.specs.Global.{Vec}
use Rattle.std.specs.Prelude.{◌==◌}
use Rattle.std.specs.Result.{IsErrAnd}
use Rattle.std.proofs.lemmas.Bool.{false_from_ne_true, eqb-true}
use Rattle.general_words.proofs.Lists.{all_append}
use Rattle.kdb_outside.specs.declared.disks.Disk.{Ghosts}
use Rattle.kdb_outside.specs.Frames.{OnlyReads}
use Rattle.kdb_outside.proofs.Frames.{GoesOn-then, OnlyReads-none, OnlyReads-then}
use Rattle.kdb_outside.proofs.Rises.{risen_since}
use Rattle.kdb_outside.specs.Images.{Image}
use Rattle.journal_codec.specs.declared.files.FileText.{FileText}
use Rattle.journal_codec.specs.Entry.{journal_name, journal2_name, IsEntry}
use Rattle.journal_lists.specs.Grammar.{most_entries}
use Rattle.journal_lists.specs.Journals.{former_in, journal_in}
use Rattle.journal_lists.proofs.Journals.{former_opens, journal_opens, journal_read, journal_breaks}
use Rattle.journal_steps.specs.declared.faults.JournalFault.{JournalFault}
use Rattle.journal_steps.specs.declared.faults.JournalFault.TheVariants.{BadJournal, UnknownVersion, DiskFault, Memory}
use Rattle.journal_steps.specs.Moments.{LeavesOnly}
use Rattle.journal_steps.specs.Outcomes.{with_entries, SameFiles, IsEither}
use Rattle.journal_steps.proofs.Meanwhile.{else_both}
use Rattle.journal_steps.proofs.Passages.{either_same, with_entries-same}
use Rattle.intent_journal.specs.Opened.{with_former, found_in, entries_found, open_list, opened_files, IsKept}
use Rattle.intent_journal.specs.Openings.{IsOpened, StaysFound, OpensCalm, OpensList, RetiresCalm, RetiresFormer, OpensBehind, entries_of}
use Rattle.intent_journal.specs.Journal.{IsSound}
use Rattle.intent_journal.specs.Opens.{has_any}
use Rattle.intent_journal.specs.Outcomes.{HasOnly}
use Rattle.intent_journal.specs.States.{IsHeadInDoubt, IsCalm}
use Rattle.intent_journal.proofs.Entries.{with_entries-append}
use Rattle.intent_journal.proofs.OpenSteps.{moved_doubt, doubt_settled}
use Rattle.intent_journal.proofs.Readings.{found_breaks}
use Rattle.intent_journal.proofs.RetireSteps.{retires_refused}
use Rattle.intent_journal.proofs.Retired.{retired_kept}
use Rattle.intent_journal.proofs.Sound.{no_list, begins_none}

-- whether either list has entries
some_any : (entry : List FileText) (entries : List (List FileText)) → has_any (entry ∷ entries) ≡ true
some_any entry entries =
    ap not (false_from_ne_true (length (entry ∷ entries) == 0) (λ is. let none = eqb-true (length (entry ∷ entries)) 0 is in omega arith))

pub any_both : (former list : List (List FileText)) → (has_any former || has_any list) ≡ has_any (former ++ list)
any_both [] list = refl
any_both (entry ∷ former) list =
    ap (λ (b : Bool). b || has_any list) (some_any entry former) ∙ sym (some_any entry (former ++ list))

-- moments of two parts
moments_both : {D : Type 0} (g : Ghosts D) (old mid new : D) (P : Image → Type 0) → g.moment old ≤ g.moment mid
    → LeavesOnly g old mid P → LeavesOnly g mid new P → LeavesOnly g old new P
moments_both g old mid new P later first second = record {
  each = λ image left. elim (second.earlier (g.moment old) image later left) [ inl was ↦ first.each image was | inr has ↦ has ];
  earlier = else_both _ _ _ _ _ P first.earlier later second.earlier;
}

-- what stays found of a disk in two parts
stays_both : {D : Type 0} (g : Ghosts D) (old mid new : D) → g.tells mid ≡ true → StaysFound g old mid
    → OnlyReads g mid new ⊎ StaysFound g mid new → StaysFound g old new
stays_both g old mid new told first (inl reads) =
    subst (λ (s : Image). SameFiles (opened_files s) (opened_files (g.seen old)) → SameFiles s (g.seen old) ⊎ SameFiles s (opened_files (g.seen old)) → StaysFound g old new) (reads.same told)
    (λ found shown. record { found = found; shown = shown }) first.found first.shown
stays_both g old mid new told first (inr second) = record {
  found = λ file own. second.found file own ∙ first.found file own;
  shown = elim second.shown [
    | inl still ↦ elim first.shown [
      | inl was ↦ inl (λ file own. still file own ∙ was file own)
      | inr was ↦ inr (λ file own. still file own ∙ was file own)
    ]
    | inr opened ↦ inr (λ file own. opened file own ∙ first.found file own)
  ];
}

-- a former journal that was retired, with these entries
module _ {D : Type 0} (g : Ghosts D) (old mid : D) (former : List (List FileText)) (retires : RetiresFormer g old mid (Ok former)) (tells : g.tells old ≡ true) where
  pub told : g.tells mid ≡ true
  told = retires.goes.tells ∙ tells

  -- the files with entries of both
  joined : (list : List (List FileText))
      → SameFiles (with_entries (g.seen old) (former ++ list)) (with_entries (g.seen mid) list)
  joined list file own =
      ap (λ (f : Image). f file) (with_entries-append former list (g.seen old))
      ∙ with_entries-same list (with_entries (g.seen old) former) (g.seen mid) file (sym (retires.files tells file own))

  -- what is found then
  pub found_both : (behind : Result (List (List FileText)) JournalFault)
      → journal_in (g.seen mid journal2_name) ≡ behind → found_in (g.seen old) ≡ with_former (Ok former) behind
  found_both behind is =
      ap₂ (λ (a b : Result (List (List FileText)) JournalFault). with_former a b) (retires.good tells)
      (ap (λ (c : List ℕ). journal_in c) (sym (retires.journal tells)) ∙ is)

  found_mid : (behind : Result (List (List FileText)) JournalFault) → journal_in (g.seen mid journal2_name) ≡ behind
      → found_in (g.seen mid) ≡ with_former (Ok []) behind
  found_mid behind is =
      ap₂ (λ (a b : Result (List (List FileText)) JournalFault). with_former a b) (retires.closed tells) is

  -- where `journal2` can be read, the retiring leaves what an opening finds
  module _ (files : Image) (doubt : Option (List FileText)) (calm : IsCalm (g.seen old) (g.may_leave old) files doubt) where
    left : RetiresCalm g old mid (Ok former) files doubt
    left = retires.leaves tells files doubt calm

    calm_mid : IsCalm (g.seen mid) (g.may_leave mid) files doubt
    calm_mid = left.calm_still (λ is. absurd (cc))

    -- its list is empty where the former journal had entries
    alone : (list : List (List FileText)) → journal_in (g.seen mid journal2_name) ≡ Ok list → former ≢ [] → list ≡ []
    alone list is some =
        (left.alone some (g.seen mid journal2_name) (g.read_is_image mid told journal2_name)).none list (journal_read (g.seen mid journal2_name) list (journal_opens (g.seen mid journal2_name) list is))

    stays_with : (list : List (List FileText)) → journal_in (g.seen mid journal2_name) ≡ Ok list → StaysFound g old mid
    stays_with list is =
        let opened_mid = ap entries_found (found_mid (Ok list) is) in
        let opened_old = ap entries_found (found_both (Ok list) is) in
        record {
          found = λ file own.
              ap (λ (es : List (List FileText)). with_entries (g.seen mid) es file) opened_mid
              ∙ sym (joined list file own)
              ∙ sym (ap (λ (es : List (List FileText)). with_entries (g.seen old) es file) opened_old);
          shown = by former refl;
        }
      where
        by : (entries : List (List FileText)) → former ≡ entries
            → SameFiles (g.seen mid) (g.seen old) ⊎ SameFiles (g.seen mid) (opened_files (g.seen old))
        by [] none =
            inl (λ file own. retires.files tells file own ∙ ap (λ (es : List (List FileText)). with_entries (g.seen old) es file) none)
        by (entry ∷ entries) some =
            let empty : list ≡ [] = alone list is (λ none. let both = sym some ∙ none in cc) in
            inr (λ file own.
            ap (λ (es : List (List FileText)). with_entries (g.seen mid) es file) (sym empty)
            ∙ sym (joined list file own)
            ∙ sym (ap (λ (es : List (List FileText)). with_entries (g.seen old) es file) (ap entries_found (found_both (Ok list) is))))

    pub stays_mid : StaysFound g old mid
    stays_mid = by (journal_in (g.seen mid journal2_name)) refl
      where
        by : (behind : Result (List (List FileText)) JournalFault) → journal_in (g.seen mid journal2_name) ≡ behind
            → StaysFound g old mid
        by (Ok list) is = stays_with list is
        by (Err fault) is =
            absurd (calm_mid.not_broken (g.seen mid) (λ file own. g.read_is_image mid told file) (inr (inl (journal_breaks (g.seen mid journal2_name) fault is))))

    module _ (new : D) where
      -- `journal2` was opened then
      pub both_opened : (list : List (List FileText)) → journal_in (g.seen mid journal2_name) ≡ Ok list
          → (list ≡ [] → OnlyReads g mid new) → OpensCalm g mid new (Ok list) files doubt
          → OpensCalm g old new (Ok (former ++ list)) files doubt
      both_opened list is reads opens = record {
        files = either_same files (with_entries (g.seen mid) list) (with_entries (g.seen old) (former ++ list)) doubt (joined list) opens.files;
        opened = by former refl;
        own = λ same. opens.own (λ file own. same file own ∙ joined list file own);
        calm_still = λ other. opens.calm_still (λ fault. absurd (cc));
        stays = λ other. inr (stays_both g old mid new told stays_mid (opens.stays (λ fault. absurd (cc))));
        any_moment = moments_both g old mid new (HasOnly (IsEither files doubt)) retires.goes.moment left.any_moment opens.any_moment;
      }
        where
          moved : (later : Option (List FileText))
              → IsHeadInDoubt (g.may_leave new) (with_entries (g.seen mid) list) later
              → IsHeadInDoubt (g.may_leave new) (with_entries (g.seen old) (former ++ list)) later
          moved later =
              moved_doubt (g.may_leave new) (with_entries (g.seen mid) list) (with_entries (g.seen old) (former ++ list)) later (joined list)

          by : (entries : List (List FileText)) → former ≡ entries
              → IsOpened (g.may_leave new) (with_entries (g.seen old) (former ++ list)) (former ++ list)
          by [] none = record {
            later = opens.opened.later;
            sure = λ some. opens.opened.sure (λ empty. some (ap₂ (λ (a b : List (List FileText)). a ++ b) none empty));
            rests = moved opens.opened.later opens.opened.rests;
          }
          by (entry ∷ entries) some =
              let some_there : former ≢ [] = λ none. let both = sym some ∙ none in cc in
              let only = reads (alone list is some_there) in
              record {
                later = None;
                sure = λ _. refl;
                rests = moved None (doubt_settled (g.may_leave new) (with_entries (g.seen mid) list) opens.opened.later None opens.opened.rests
                    (λ c left_now. left.alone some_there c ((only.images told journal2_name).no_more c left_now)));
              }

      -- or refused
      pub both_refused : (fault : JournalFault) → OpensCalm g mid new (Err fault) files doubt
          → OpensCalm g old new (Err fault) files doubt
      both_refused fault opens = record {
        files = tt;
        opened = tt;
        own = tt;
        calm_still = opens.calm_still;
        stays = λ other. inr (stays_both g old mid new told stays_mid (opens.stays other));
        any_moment = moments_both g old mid new (HasOnly (IsEither files doubt)) retires.goes.moment left.any_moment opens.any_moment;
      }

-- ---- what an opening answers

pub refused_entries : (fault : JournalFault) (result : Result (Vec (List FileText) × Vec (List FileText)) JournalFault)
    → IsErrAnd result (λ e. e ≡ fault) → entries_of result ≡ Err fault
refused_entries fault (Ok lists) err = absurd err
refused_entries fault (Err e) err = ap Err err

-- a former journal that wasn't retired
pub opens_unretired : {D : Type 0} (g : Ghosts D) (old new : D) (fault : JournalFault)
    → RetiresFormer g old new (Err fault) → OpensList g old new (Err fault)
opens_unretired g old new fault retires = record {
  entries = tt;
  good = λ tells. tt;
  opens = λ tells. tt;
  bad = λ tells at is. refused (retires.bad tells at is);
  unknown = λ tells version is. absurd (retires.known version is);
  calm = λ tells files doubt calm is. calm.not_broken (g.seen old) (λ file own. g.read_is_image old tells file) (found_breaks (g.seen old) fault is);
  leaves = λ tells files doubt calm.
      let left = retires.leaves tells files doubt calm in
      record {
        files = tt;
        opened = tt;
        own = tt;
        calm_still = left.calm_still;
        stays = λ other. inl (retires.kept tells (λ is. other (ap Err is)));
        any_moment = left.any_moment;
      };
  retired = λ tells some. tt;
  retires = λ tells not_kept not_disk not_memory. absurd (by fault refl tells not_kept not_disk not_memory);
  none = λ tells none is. retires.none tells none;
  kept = λ tells kept other. retires.kept tells other;
  stays = λ tells other is kept. elim kept [
    | inl none ↦ retires.none tells none
    | inr broken ↦ retires.stays tells broken.0 broken.1
  ];
  goes = retires.goes;
  cause = retires.cause;
}
  where
    refused : {other : JournalFault} → former_in (g.seen old journal_name) ≡ Err other
        → found_in (g.seen old) ≡ Err other
    refused is =
        ap (λ (r : Result (List (List FileText)) JournalFault). with_former r (journal_in (g.seen old journal2_name))) is

    by : (other : JournalFault) → fault ≡ other → g.tells old ≡ true → ¬ IsKept (g.seen old) → fault ≢ DiskFault
        → fault ≢ Memory → ⊥
    by DiskFault is tells not_kept not_disk not_memory = not_disk is
    by Memory is tells not_kept not_disk not_memory = not_memory is
    by (BadJournal at) is tells not_kept not_disk not_memory =
        not_kept (inr (BadJournal at, retires.bad tells at (ap Err is)))
    by (UnknownVersion version) is tells not_kept not_disk not_memory = retires.known version (ap Err is)

module _ {D : Type 0} (g : Ghosts D) (old mid new : D) (former : List (List FileText)) (retires : RetiresFormer g old mid (Ok former)) where
  told_mid : g.tells old ≡ true → g.tells mid ≡ true
  told_mid tells = retires.goes.tells ∙ tells

  -- a former journal that is whole isn't refused
  not_refused : g.tells old ≡ true → (fault : JournalFault) → ¬ (former_in (g.seen old journal_name) ≡ Err fault)
  not_refused tells fault is = let both = sym (retires.good tells) ∙ is in cc

  -- where an opening finds nothing, `journal2` has no open entry, or it is refused
  reads_none : (behind : Result (List (List FileText)) JournalFault) → OpensBehind g mid new behind → g.tells old ≡ true
      → open_list (g.seen old) ≡ [] → OnlyReads g mid new
  reads_none behind opens tells none = by (journal_in (g.seen mid journal2_name)) refl
    where
      no_more : (entries list : List (List FileText)) → entries ++ list ≡ [] → list ≡ []
      no_more [] list is = is
      no_more (entry ∷ entries) list is = absurd (cc)

      by : (found : Result (List (List FileText)) JournalFault) → journal_in (g.seen mid journal2_name) ≡ found
          → OnlyReads g mid new
      by (Err fault) is = opens.stays (told_mid tells) fault is
      by (Ok list) is =
          let all = sym (ap entries_found (found_both g old mid former retires tells (Ok list) is)) ∙ none in
          let empty = no_more former list all in
          opens.none (told_mid tells) (is ∙ ap (λ (es : List (List FileText)). Ok es) empty)

  -- `journal2` was opened
  pub opens_both : (list : List (List FileText)) → OpensBehind g mid new (Ok list)
      → OpensList g old new (Ok (former ++ list))
  opens_both list opens = record {
    entries = all_append IsEntry former list retires.entries opens.entries;
    good = λ tells. found_both g old mid former retires tells (Ok list) (opens.good (told_mid tells));
    opens = λ tells. record {
      before = former;
      behind = list;
      are = refl;
      former = former_opens (g.seen old journal_name) former (retires.good tells);
      journal = journal_opens (g.seen old journal2_name) list (ap (λ (c : List ℕ). journal_in c) (sym (retires.journal tells)) ∙ opens.good (told_mid tells));
    };
    bad = λ tells at is. absurd (cc);
    unknown = λ tells version is. absurd (cc);
    calm = λ tells files doubt calm. tt;
    leaves = λ tells files doubt calm.
        let left_mid = retires.leaves tells files doubt calm in
        both_opened g old mid former retires tells files doubt calm new list (opens.good (told_mid tells))
        (λ none. opens.none (told_mid tells) (opens.good (told_mid tells) ∙ ap (λ (es : List (List FileText)). Ok es) none))
        (opens.leaves left_mid.retired (told_mid tells) files doubt (left_mid.calm_still (λ is. absurd (cc))));
    retired = λ tells some. retired_kept (g.may_leave mid) (g.may_leave new) (opens.former (told_mid tells)) (retires.retired tells some);
    retires = λ tells not_kept. tt;
    none = λ tells none is. OnlyReads-then g old mid new (retires.none tells none) (reads_none (Ok list) opens tells is);
    kept = λ tells kept. tt;
    stays = λ tells fault is kept. absurd (let both = sym (found_both g old mid former retires tells (Ok list) (opens.good (told_mid tells))) ∙ is in cc);
    goes = GoesOn-then g old mid new retires.goes opens.goes;
    cause = λ is. absurd (cc);
  }

  -- or refused
  pub opens_refused_behind : (fault : JournalFault) → OpensBehind g mid new (Err fault)
      → OpensList g old new (Err fault)
  opens_refused_behind fault opens = record {
    entries = tt;
    good = λ tells. tt;
    opens = λ tells. tt;
    bad = λ tells at is. found_both g old mid former retires tells (Err (BadJournal at)) (opens.bad (told_mid tells) at is);
    unknown = λ tells version is. found_both g old mid former retires tells (Err (UnknownVersion version)) (opens.unknown (told_mid tells) version is);
    calm = λ tells files doubt calm is. calm.not_broken (g.seen old) (λ file own. g.read_is_image old tells file) (found_breaks (g.seen old) fault is);
    leaves = λ tells files doubt calm.
        let left_mid = retires.leaves tells files doubt calm in
        both_refused g old mid former retires tells files doubt calm new fault
        (opens.leaves left_mid.retired (told_mid tells) files doubt (left_mid.calm_still (λ is. absurd (cc))));
    retired = λ tells some. tt;
    retires = λ tells not_kept not_disk not_memory.
        let reads = opens.kept (told_mid tells) not_disk in
        record {
          retired = retired_kept (g.may_leave mid) (g.may_leave new) (opens.former (told_mid tells)) (retires.retired tells (λ none. not_kept (inl none)));
          files = λ file own.
              ap (λ (s : Image). s file) (reads.same (told_mid tells)) ∙ retires.files tells file own
              ∙ sym (ap (λ (es : List (List FileText)). with_entries (g.seen old) es file) (ap entries_found (retires.good tells)));
          journal = ap (λ (s : Image). s journal2_name) (reads.same (told_mid tells)) ∙ retires.journal tells;
        };
    none = λ tells none is. OnlyReads-then g old mid new (retires.none tells none) (reads_none (Err fault) opens tells is);
    kept = λ tells kept other. elim kept [
      | inl none ↦ OnlyReads-then g old mid new (retires.none tells none) (opens.kept (told_mid tells) other)
      | inr broken ↦ absurd (not_refused tells broken.0 broken.1)
    ];
    stays = λ tells other is kept. elim kept [
      | inl none ↦ OnlyReads-then g old mid new (retires.none tells none) (by tells other is (journal_in (g.seen mid journal2_name)) refl)
      | inr broken ↦ absurd (not_refused tells broken.0 broken.1)
    ];
    goes = GoesOn-then g old mid new retires.goes opens.goes;
    cause = λ is. risen_since (g.faults old) (g.faults mid) (g.faults new) retires.goes.later (opens.cause is);
  }
    where
      by : (tells : g.tells old ≡ true) (other : JournalFault) → found_in (g.seen old) ≡ Err other
          → (found : Result (List (List FileText)) JournalFault) → journal_in (g.seen mid journal2_name) ≡ found
          → OnlyReads g mid new
      by tells other refused (Err third) is = opens.stays (told_mid tells) third is
      by tells other refused (Ok list) is =
          absurd (let both = sym (found_both g old mid former retires tells (Ok list) is) ∙ refused in cc)

-- where memory was out before the disk was read
pub opens_memory : {D : Type 0} (g : Ghosts D) (disk : D) → OpensList g disk disk (Err Memory)
opens_memory g disk =
    opens_unretired g disk disk Memory (retires_refused g disk disk (OnlyReads-none g disk) Memory (λ tells at is. absurd (cc)) (λ version is. absurd (cc)) (λ is. absurd (cc)))

-- a journal as its opening leaves it
pub sound_fresh : (tells : Bool) (leaves : List ℕ → List ℕ → Type 0) (name : List ℕ) (list : List (List FileText))
    (room : ℕ) → name ≡ journal2_name → list ≡ [] → most_entries ≤ room
    → IsSound tells leaves name 0 false 0 list true room
sound_fresh tells leaves name list room named none spare =
    subst (λ (entries : List (List FileText)). IsSound tells leaves name 0 false 0 entries true room) (sym none) (record {
      named = named;
      placed = omega arith;
      short = omega arith;
      bare = λ _. (refl, refl);
      fits = no_list;
      spare = spare;
      journal = λ told. begins_none leaves;
    })
