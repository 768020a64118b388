-- What the retiring of the former journal leaves of a calm disk, and what it leaves meanwhile.
use Rattle.std.proofs.Common.{◌≡◌, ◌≢◌, ◌⊎◌, inl, inr, ℕ, ◌+◌, ◌<◌, List, [], ◌∷◌, ◌++◌, length, drop, true, Option, None, Result, Ok, Err, refl, sym, ap, ◌∙◌, subst, arith, append_assoc, length-drop}
use Rattle.std.specs.List.{AllByRecursion}
use Rattle.std.specs.Option.{unwrap_or}
use Rattle.kdb_outside.specs.declared.disks.Disk.{Ghosts}
use Rattle.kdb_outside.specs.declared.faults.Failed.{Failed}
use Rattle.kdb_outside.specs.Faults.{HasRisen}
use Rattle.kdb_outside.specs.Frames.{GoesOn, OnlyReads}
use Rattle.kdb_outside.proofs.Frames.{GoesOn-then, OnlyReads-goes_on}
use Rattle.kdb_outside.proofs.Rises.{risen_since}
use Rattle.kdb_outside.specs.Images.{Image, IsImage, Only, IsTornWrite}
use Rattle.journal_codec.specs.declared.files.FileText.{FileText}
use Rattle.journal_codec.specs.Entry.{journal_name, journal2_name, IsEntry}
use Rattle.journal_lists.specs.Grammar.{head_size}
use Rattle.journal_lists.specs.Heads.{head_start}
use Rattle.journal_lists.specs.Journals.{ReadsFormer, OpensFormer, BreaksFormer, ReadsJournal, OpensJournal, BreaksJournal, former_in}
use Rattle.journal_lists.specs.Lists.{Leads, HasGate, BeginsSo, as_one}
use Rattle.journal_lists.specs.Rules.{plain}
use Rattle.journal_lists.proofs.Gates.{closing_breaks, closing_reads, opens_once}
use Rattle.journal_lists.proofs.Journals.{former_opens, former_is, former_read, former_begins}
use Rattle.journal_steps.specs.declared.faults.JournalFault.{JournalFault}
use Rattle.journal_steps.specs.declared.faults.JournalFault.TheVariants.{BadJournal, UnknownVersion, DiskFault}
use Rattle.journal_steps.specs.JournalBytes.{gate, IsOwnFile, IsShut}
use Rattle.journal_steps.specs.Moments.{AddsOnly, LeavesOnly}
use Rattle.journal_steps.specs.Outcomes.{content_in, with_entries, SameFiles, IsEither}
use Rattle.journal_steps.proofs.Meanwhile.{else_both, else_weaker, meanwhile}
use Rattle.journal_steps.proofs.Passages.{own_files, own_image}
use Rattle.intent_journal.specs.Opened.{HasNoFormer}
use Rattle.intent_journal.specs.Openings.{RetiresFormer}
use Rattle.intent_journal.specs.Outcomes.{ReadsAs, IsBroken, HasOnly}
use Rattle.intent_journal.specs.Recovering.{IsElse, IsBehindBringing, IsRetiring, Retires}
use Rattle.intent_journal.specs.States.{IsRetired, HoldsNone, IsUnopened, HasJournalGate, DiffersAt, IsOneGate, IsCalm}
use Rattle.intent_journal.proofs.Contents.{content_cases}
use Rattle.intent_journal.proofs.Entries.{with_entries-as_one}
use Rattle.intent_journal.proofs.OpenSteps.{calm_read, else_read}
use Rattle.intent_journal.proofs.Passages.{as_one-own}
use Rattle.intent_journal.proofs.Readings.{as_one-neither, one_gate_kept, calm_from, calm_each}
use Rattle.intent_journal.proofs.RecoverSteps.{patched, patched_this, patched_else, bringing_only, behind_only}
use Rattle.intent_journal.proofs.Retired.{names_apart, retired_shut, retired_only, shut_reads, shut_opens, shut_not_broken}

-- a calm disk whose former journal is too short to be looked at is as if it was retired
pub retired_short : (seen : Image) (leaves : List ℕ → List ℕ → Type 0)
    → IsOneGate (HasGate plain (seen journal_name)) head_size (seen journal_name) (leaves journal_name)
    → IsImage leaves seen
    → length (seen journal_name) < head_size → IsRetired leaves
retired_short seen leaves (inl one) seen_is short =
    inl (λ c is. sized c (one.2 c is) (one.2 (seen journal_name) (seen_is journal_name)))
  where
    sized : (c : List ℕ) → DiffersAt one.0 (seen journal_name) c
        → DiffersAt one.0 (seen journal_name) (seen journal_name) → length c < head_size
    sized c differs itself =
        let behind = ap length differs.back in
        omega (arith, length-drop (one.0 + 1) c, length-drop (one.0 + 1) (seen journal_name), differs.there, itself.there)
retired_short seen leaves (inr (inl ends)) seen_is short =
    inr (λ c is. subst (λ (n : ℕ). gate (drop n c) ≡ 0) (first ends.1.0 ends.1.1) (ends.2 c is).closed)
  where
    first : (entries : List (List FileText))
        → Leads plain (λ number place rest. place ≡ ends.0) 0 0 (seen journal_name) entries → ends.0 ≡ 0
    first [] placed = sym placed
    first (entry ∷ entries) leads = absurd (let there = leads.0.there in omega arith)
retired_short seen leaves (inr (inr all_short)) seen_is short = inl all_short

-- a calm disk whose former journal has these open entries
module _ (seen : Image) (leaves : List ℕ → List ℕ → Type 0) (files : Image) (doubt : Option (List FileText)) (list : List (List FileText)) (calm : IsCalm seen leaves files doubt)
    (seen_is : IsImage leaves seen) (each : AllByRecursion IsEntry list) (opens : OpensFormer (seen journal_name) list) where
  begins_former : (image : Image) → IsImage leaves image → image journal_name ≡ seen journal_name
      → (entries : List (List FileText)) → ReadsAs image entries → BeginsSo list entries
  begins_former image is same entries reads =
      let begun = former_begins (seen journal_name) list reads.before opens (subst (λ (c : List ℕ). ReadsFormer c reads.before) same reads.former) in
      (begun.0 ++ reads.behind, reads.are ∙ ap (λ (es : List (List FileText)). es ++ reads.behind) begun.1 ∙ append_assoc list begun.0 reads.behind)

  module _ (image : Image) where
    was_former : patched seen journal_name list image journal_name ≡ seen journal_name
    was_former = patched_this seen journal_name list image

    was_journal : patched seen journal_name list image journal2_name ≡ image journal2_name
    was_journal =
        patched_else seen journal_name list image journal2_name (names_apart, as_one-own list journal2_name (inr refl) each)

    -- behind a closing nothing is read, or what was read before it
    no_former : (entries behind : List (List FileText)) → entries ≡ behind → ReadsJournal (image journal2_name) behind
        → ReadsAs (patched seen journal_name list image) (list ++ entries)
    no_former entries behind are journal = record {
      before = list;
      behind = behind;
      are = ap (λ (es : List (List FileText)). list ++ es) are;
      former = subst (λ (c : List ℕ). ReadsFormer c list) (sym was_former) (former_read (seen journal_name) list opens);
      journal = subst (λ (c : List ℕ). ReadsJournal c behind) (sym was_journal) journal;
    }

    some_former : (entries before behind : List (List FileText)) → entries ≡ before ++ behind
        → ReadsFormer (seen journal_name) before → ReadsJournal (image journal2_name) behind
        → ReadsAs (patched seen journal_name list image) entries
    some_former entries before behind are former journal = record {
      before = before;
      behind = behind;
      are = are;
      former = subst (λ (c : List ℕ). ReadsFormer c before) (sym was_former) former;
      journal = subst (λ (c : List ℕ). ReadsJournal c behind) (sym was_journal) journal;
    }

    closes_torn : IsTornWrite 0 (0 ∷ []) (seen journal_name) (image journal_name) → (entries : List (List FileText))
        → ReadsAs image entries
        → ReadsAs (patched seen journal_name list image) entries
        ⊎ ReadsAs (patched seen journal_name list image) (list ++ entries)
    closes_torn torn entries reads = by reads.before reads.former reads.are
      where
        by : (before : List (List FileText)) → ReadsFormer (image journal_name) before
            → entries ≡ before ++ reads.behind
            → ReadsAs (patched seen journal_name list image) entries
            ⊎ ReadsAs (patched seen journal_name list image) (list ++ entries)
        by [] former are = inr (no_former entries reads.behind are reads.journal)
        by (entry ∷ more) former are =
            inl (some_former entries (entry ∷ more) reads.behind are (closing_reads plain 0 0 (seen journal_name) (image journal_name) entry more torn former) reads.journal)

    breaks_torn : IsTornWrite 0 (0 ∷ []) (seen journal_name) (image journal_name) → IsBroken image
        → IsBroken (patched seen journal_name list image)
    breaks_torn torn (inl broken) =
        inl (subst (λ (c : List ℕ). BreaksFormer c) (sym was_former) (closing_breaks plain 0 0 (seen journal_name) (image journal_name) torn broken))
    breaks_torn torn (inr (inl broken)) = inr (inl (subst (λ (c : List ℕ). BreaksJournal c) (sym was_journal) broken))
    breaks_torn torn (inr (inr both)) =
        inr (inr (record {
          one = both.one;
          others = both.others;
          former = subst (λ (c : List ℕ). ReadsFormer c (both.one ∷ both.others)) (sym was_former) (closing_reads plain 0 0 (seen journal_name) (image journal_name) both.one both.others torn both.former);
          first = both.first;
          more = both.more;
          journal = subst (λ (c : List ℕ). ReadsJournal c (both.first ∷ both.more)) (sym was_journal) both.journal;
        }))

    closes_shut : IsShut (image journal_name) → (entries : List (List FileText)) → ReadsAs image entries
        → ReadsAs (patched seen journal_name list image) entries
        ⊎ ReadsAs (patched seen journal_name list image) (list ++ entries)
    closes_shut shut entries reads =
        let none = shut_reads (image journal_name) reads.before shut reads.former in
        inr (no_former entries reads.behind (reads.are ∙ ap (λ (es : List (List FileText)). es ++ reads.behind) none) reads.journal)

    breaks_shut : IsShut (image journal_name) → IsBroken image → IsBroken (patched seen journal_name list image)
    breaks_shut shut (inl broken) = absurd (shut_not_broken (image journal_name) shut broken)
    breaks_shut shut (inr (inl broken)) = inr (inl (subst (λ (c : List ℕ). BreaksJournal c) (sym was_journal) broken))
    breaks_shut shut (inr (inr both)) =
        absurd (let none = shut_reads (image journal_name) (both.one ∷ both.others) shut both.former in cc)

  -- whatever a crash leaves while it is retired
  pub retiring_only : (image : Image) → IsRetiring seen leaves list image → HasOnly (IsEither files doubt) image
  retiring_only image (inl (inl is)) = calm_each seen leaves files doubt calm image is
  retiring_only image (inl (inr (inl bringing))) =
      bringing_only seen leaves files doubt journal_name list (inl refl) each seen_is (calm_each seen leaves files doubt calm) begins_former image bringing
  retiring_only image (inl (inr (inr behind))) =
      behind_only seen leaves files doubt journal_name list (inl refl) each seen_is (calm_each seen leaves files doubt calm) begins_former (IsTornWrite 0 (0 ∷ []) (seen journal_name)) image behind
      (closes_torn image behind.this) (breaks_torn image behind.this)
  retiring_only image (inr behind) =
      behind_only seen leaves files doubt journal_name list (inl refl) each seen_is (calm_each seen leaves files doubt calm) begins_former IsShut image behind
      (closes_shut image behind.this) (breaks_shut image behind.this)

  -- where the former journal has an open entry, no reading of `journal2` has one
  pub none_behind : list ≢ [] → (c : List ℕ) → leaves journal2_name c → HoldsNone c
  none_behind some c is = record {
    not_broken = λ broken. calm.not_broken (own_files (seen journal_name) c) (own_image leaves (seen journal_name) c (seen_is journal_name) is) (inr (inl broken));
    none = λ more reads. by list some (former_read (seen journal_name) list opens) more reads;
  }
    where
      by : (entries : List (List FileText)) → entries ≢ [] → ReadsFormer (seen journal_name) entries
          → (more : List (List FileText)) → ReadsJournal c more → more ≡ []
      by entries not_none former [] reads = refl
      by [] not_none former (first ∷ more) reads = absurd (not_none refl)
      by (entry ∷ entries) not_none former (first ∷ more) reads =
          absurd (calm.not_broken (own_files (seen journal_name) c) (own_image leaves (seen journal_name) c (seen_is journal_name) is)
          (inr (inr (record { one = entry; others = entries; former = former; first = first; more = more; journal = reads }))))

-- a disk whose former journal was retired
module _ {D : Type 0} (g : Ghosts D) (old new : D) (list : List (List FileText)) (tells : g.tells old ≡ true) (told : g.tells new ≡ true) (each : AllByRecursion IsEntry list)
    (opens : OpensFormer (g.seen old journal_name) list) (retires : Retires g old new (Ok tt) list) where
  else_journal : IsElse journal_name list journal2_name
  else_journal = (names_apart, as_one-own list journal2_name (inr refl) each)

  else_unnamed : (file : List ℕ) → ¬ IsOwnFile file → content_in (as_one list) file ≡ None
      → IsElse journal_name list file
  else_unnamed file own none = ((λ same. own (inl same)), none)

  now_is : IsImage (g.may_leave new) (g.seen new)
  now_is = g.read_is_image new told

  pub journal_same : g.seen new journal2_name ≡ g.seen old journal2_name
  journal_same = retires.kept.seen journal2_name else_journal

  pub retired_now : IsRetired (g.may_leave new)
  retired_now = retired_only (g.may_leave new) retires.closed

  shut_now : IsShut (g.seen new journal_name)
  shut_now = retired_shut (g.may_leave new) (g.seen new journal_name) retired_now (now_is journal_name)

  pub former_closed : former_in (g.seen new journal_name) ≡ Ok []
  former_closed = former_is (g.seen new journal_name) [] (shut_opens (g.seen new journal_name) shut_now)

  pub files_there : SameFiles (g.seen new) (with_entries (g.seen old) list)
  files_there file own = elim (content_cases (as_one list) file) [
    | inl none ↦ retires.kept.seen file (else_unnamed file own none)
        ∙ sym (with_entries-as_one list (g.seen old) file ∙ ap (λ (o : Option (List ℕ)). unwrap_or o (g.seen old file)) none)
    | inr some ↦ retires.brought file some.0 some.1 (g.seen new file) (now_is file)
        ∙ sym (with_entries-as_one list (g.seen old) file ∙ ap (λ (o : Option (List ℕ)). unwrap_or o (g.seen old file)) some.1)
  ]

  module _ (files : Image) (doubt : Option (List FileText)) (calm : IsCalm (g.seen old) (g.may_leave old) files doubt) where
    behind_now : (image : Image) → IsImage (g.may_leave new) image
        → IsBehindBringing (g.may_leave old) journal_name list IsShut image
    behind_now image is = record {
      this = retired_shut (g.may_leave new) (image journal_name) retired_now (is journal_name);
      named = λ other bytes some. retires.brought other bytes some (image other) (is other);
      others = λ other apart. (retires.kept.images other apart).no_more (image other) (is other);
    }

    each_now : (image : Image) → IsImage (g.may_leave new) image → HasOnly (IsEither files doubt) image
    each_now image is =
        retiring_only (g.seen old) (g.may_leave old) files doubt list calm (g.read_is_image old tells) each opens image (inr (behind_now image is))

    -- what no open entry names now, none named before
    unopened_before : (file : List ℕ) → content_in (as_one list) file ≡ None → IsUnopened (g.seen new) file
        → IsUnopened (g.seen old) file
    unopened_before file none unopened entries opened =
        let former : opened.before ≡ list = opens_once plain (g.seen old journal_name) list opened.before opens opened.former in
        let behind = unopened opened.behind (record {
          before = [];
          behind = opened.behind;
          are = refl;
          former = shut_opens (g.seen new journal_name) shut_now;
          journal = subst (λ (c : List ℕ). OpensJournal c opened.behind) (sym journal_same) opened.journal;
        }) in
        subst (λ (es : List (List FileText)). content_in (as_one es) file ≡ None) (sym (opened.are ∙ ap (λ (es : List (List FileText)). es ++ opened.behind) former))
        (as_one-neither list opened.behind file none behind)

    same_now : (file : List ℕ) → ¬ IsOwnFile file → IsUnopened (g.seen new) file
        → Only (g.seen new file) (g.may_leave new file)
    same_now file own unopened c is = elim (content_cases (as_one list) file) [
      | inl none ↦ calm.same file own (unopened_before file none unopened) c ((retires.kept.images file (else_unnamed file own none)).no_more c is)
          ∙ sym (retires.kept.seen file (else_unnamed file own none))
      | inr some ↦ retires.brought file some.0 some.1 c is ∙ sym (retires.brought file some.0 some.1 (g.seen new file) (now_is file))
    ]

    pub calm_retired : IsCalm (g.seen new) (g.may_leave new) files doubt
    calm_retired =
        calm_from (g.seen new) (g.may_leave new) files doubt same_now
        (inr (inr (λ c is. let sized : length c ≡ 1 = ap length (retires.closed c is) in omega arith)))
        (subst (λ (c : List ℕ). IsOneGate (HasJournalGate c) head_start c (g.may_leave new journal2_name)) (sym journal_same)
        (one_gate_kept (HasJournalGate (g.seen old journal2_name)) head_start (g.seen old journal2_name) (g.may_leave old journal2_name) (g.may_leave new journal2_name)
        (retires.kept.images journal2_name else_journal).no_more calm.journal)) now_is each_now

    pub alone_now : list ≢ [] → (c : List ℕ) → g.may_leave new journal2_name c → HoldsNone c
    alone_now some c is =
        none_behind (g.seen old) (g.may_leave old) files doubt list calm (g.read_is_image old tells) each opens some c ((retires.kept.images journal2_name else_journal).no_more c is)

-- what a crash leaves while it is retired, also where that fails
retiring_moments : {D : Type 0} (g : Ghosts D) (old new : D) (r : Result Unit Failed) (list : List (List FileText))
    (files : Image) (doubt : Option (List FileText)) → g.tells old ≡ true
    → IsCalm (g.seen old) (g.may_leave old) files doubt → AllByRecursion IsEntry list
    → OpensFormer (g.seen old journal_name) list → Retires g old new r list
    → AddsOnly g old new (HasOnly (IsEither files doubt))
retiring_moments g old new r list files doubt tells calm each opens retires =
    else_weaker _ _ _ (IsRetiring (g.seen old) (g.may_leave old) list) (HasOnly (IsEither files doubt)) retires.time
    (retiring_only (g.seen old) (g.may_leave old) files doubt list calm (g.read_is_image old tells) each opens)

-- ---- what the retiring answers

-- a former journal that was only read
module _ {D : Type 0} (g : Ghosts D) (old new : D) (reads : OnlyReads g old new) where
  moments_read : (files : Image) (doubt : Option (List FileText)) → g.tells old ≡ true
      → IsCalm (g.seen old) (g.may_leave old) files doubt → LeavesOnly g old new (HasOnly (IsEither files doubt))
  moments_read files doubt tells calm =
      meanwhile _ _ _ (HasOnly (IsEither files doubt)) (else_read g old files doubt tells calm new reads)
      (λ image left. calm_each (g.seen old) (g.may_leave old) files doubt calm image (g.only_now old image tells left))

  -- and refused
  pub retires_refused : (fault : JournalFault)
      → (g.tells old ≡ true → (at : ℕ) → fault ≡ BadJournal at → former_in (g.seen old journal_name) ≡ Err (BadJournal at))
      → ((version : ℕ) → fault ≡ UnknownVersion version → ⊥)
      → (fault ≡ DiskFault → HasRisen (g.faults old) (g.faults new)) → RetiresFormer g old new (Err fault)
  retires_refused fault bad known cause = record {
    entries = tt;
    good = λ tells. tt;
    bad = λ tells at is. bad tells at (cc);
    known = λ version is. known version (cc);
    leaves = λ tells files doubt calm. record {
      retired = tt;
      alone = tt;
      calm_still = λ other. calm_read g old files doubt tells calm new reads;
      any_moment = moments_read files doubt tells calm;
    };
    retired = λ tells some. tt;
    files = λ tells. tt;
    closed = λ tells. tt;
    journal = λ tells. ap (λ (s : Image). s journal2_name) (reads.same tells);
    none = λ tells none. reads;
    kept = λ tells other. reads;
    stays = λ tells other is. reads;
    goes = OnlyReads-goes_on g old new reads;
    cause = λ is. cause (cc);
  }

  -- or too short to be looked at
  pub retires_none : (g.tells old ≡ true → HasNoFormer (g.seen old)) → RetiresFormer g old new (Ok [])
  retires_none short = record {
    entries = tt;
    good = λ tells. former_is (g.seen old journal_name) [] (inl (short tells));
    bad = λ tells at is. absurd (cc);
    known = λ version is. cc;
    leaves = λ tells files doubt calm.
        let calm_now = calm_read g old files doubt tells calm new reads in
        let still : length (g.seen new journal_name) < head_size = subst (λ (s : Image). length (s journal_name) < head_size) (sym (reads.same tells)) (short tells) in
        record {
          retired = retired_short (g.seen new) (g.may_leave new) calm_now.former (g.read_is_image new (reads.tells ∙ tells)) still;
          alone = λ some. absurd (some refl);
          calm_still = λ other. calm_now;
          any_moment = moments_read files doubt tells calm;
        };
    retired = λ tells some. absurd (some (short tells));
    files = λ tells file own. ap (λ (s : Image). s file) (reads.same tells);
    closed = λ tells.
        let still : length (g.seen new journal_name) < head_size = subst (λ (s : Image). length (s journal_name) < head_size) (sym (reads.same tells)) (short tells) in
        former_is (g.seen new journal_name) [] (inl still);
    journal = λ tells. ap (λ (s : Image). s journal2_name) (reads.same tells);
    none = λ tells none. reads;
    kept = λ tells. tt;
    stays = λ tells fault is. reads;
    goes = OnlyReads-goes_on g old new reads;
    cause = λ is. absurd (cc);
  }

-- one that is there and was read
module _ {D : Type 0} (g : Ghosts D) (old mid new : D) (list : List (List FileText)) (reads : OnlyReads g old mid) (each : AllByRecursion IsEntry list)
    (found : g.tells old ≡ true → former_in (g.seen old journal_name) ≡ Ok list) (long : g.tells old ≡ true → ¬ HasNoFormer (g.seen old)) (goes : GoesOn g mid new) where
  open_mid : g.tells old ≡ true → OpensFormer (g.seen mid journal_name) list
  open_mid tells =
      subst (λ (s : Image). OpensFormer (s journal_name) list) (sym (reads.same tells)) (former_opens (g.seen old journal_name) list (found tells))

  moments_both : (r : Result Unit Failed) (files : Image) (doubt : Option (List FileText)) → g.tells old ≡ true
      → IsCalm (g.seen old) (g.may_leave old) files doubt → Retires g mid new r list
      → LeavesOnly g old new (HasOnly (IsEither files doubt))
  moments_both r files doubt tells calm retires =
      meanwhile _ _ _ (HasOnly (IsEither files doubt))
      (else_both _ _ _ _ _ (HasOnly (IsEither files doubt)) (else_read g old files doubt tells calm mid reads) reads.moment
      (retiring_moments g mid new r list files doubt (reads.tells ∙ tells) (calm_read g old files doubt tells calm mid reads) each (open_mid tells) retires))
      (λ image left. calm_each (g.seen old) (g.may_leave old) files doubt calm image (g.only_now old image tells left))

  journal_both : (r : Result Unit Failed) → g.tells old ≡ true → Retires g mid new r list
      → g.seen new journal2_name ≡ g.seen old journal2_name
  journal_both r tells retires =
      retires.kept.seen journal2_name (names_apart, as_one-own list journal2_name (inr refl) each)
      ∙ ap (λ (s : Image). s journal2_name) (reads.same tells)

  -- and retired
  pub retires_all : (g.tells mid ≡ true → Retires g mid new (Ok tt) list) → RetiresFormer g old new (Ok list)
  retires_all retires = record {
    entries = each;
    good = found;
    bad = λ tells at is. absurd (cc);
    known = λ version is. cc;
    leaves = λ tells files doubt calm.
        let tells_mid = reads.tells ∙ tells in
        let told = goes.tells ∙ tells_mid in
        let calm_mid = calm_read g old files doubt tells calm mid reads in
        record {
          retired = retired_now g mid new list tells_mid told each (open_mid tells) (retires tells_mid);
          alone = alone_now g mid new list tells_mid told each (open_mid tells) (retires tells_mid) files doubt calm_mid;
          calm_still = λ other. calm_retired g mid new list tells_mid told each (open_mid tells) (retires tells_mid) files doubt calm_mid;
          any_moment = moments_both (Ok tt) files doubt tells calm (retires tells_mid);
        };
    retired = λ tells some. retired_now g mid new list (reads.tells ∙ tells) (goes.tells ∙ reads.tells ∙ tells) each (open_mid tells) (retires (reads.tells ∙ tells));
    files = λ tells file own.
        files_there g mid new list (reads.tells ∙ tells) (goes.tells ∙ reads.tells ∙ tells) each (open_mid tells) (retires (reads.tells ∙ tells)) file own
        ∙ ap (λ (s : Image). with_entries s list file) (reads.same tells);
    closed = λ tells. former_closed g mid new list (reads.tells ∙ tells) (goes.tells ∙ reads.tells ∙ tells) each (open_mid tells) (retires (reads.tells ∙ tells));
    journal = λ tells. journal_both (Ok tt) tells (retires (reads.tells ∙ tells));
    none = λ tells none. absurd (long tells none);
    kept = λ tells. tt;
    stays = λ tells fault is. absurd (let good = sym (found tells) ∙ is in cc);
    goes = GoesOn-then g old mid new (OnlyReads-goes_on g old mid reads) goes;
    cause = λ is. absurd (cc);
  }

  -- or not, where the disk failed
  pub retires_failed : (r : Result Unit Failed) → (g.tells mid ≡ true → Retires g mid new r list)
      → HasRisen (g.faults mid) (g.faults new) → RetiresFormer g old new (Err DiskFault)
  retires_failed r retires risen = record {
    entries = tt;
    good = λ tells. tt;
    bad = λ tells at is. absurd (cc);
    known = λ version is. cc;
    leaves = λ tells files doubt calm. record {
      retired = tt;
      alone = tt;
      calm_still = λ other. absurd (other refl);
      any_moment = moments_both r files doubt tells calm (retires (reads.tells ∙ tells));
    };
    retired = λ tells some. tt;
    files = λ tells. tt;
    closed = λ tells. tt;
    journal = λ tells. journal_both r tells (retires (reads.tells ∙ tells));
    none = λ tells none. absurd (long tells none);
    kept = λ tells other. absurd (other refl);
    stays = λ tells fault is. absurd (let good = sym (found tells) ∙ is in cc);
    goes = GoesOn-then g old mid new (OnlyReads-goes_on g old mid reads) goes;
    cause = λ is. risen_since (g.faults old) (g.faults mid) (g.faults new) reads.later risen;
  }
