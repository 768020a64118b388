-- A journal at rest between the phases: what is known of it before and behind each step, and how it passes from one
-- into the other.
use Rattle.std.proofs.Common.{◌≡◌, ◌≢◌, ◌⊎◌, ℕ, ◌+◌, ◌≤◌, List, [], ◌∷◌, ◌++◌, length, Bool, true, false, inl, inr, Option, Some, None, Result, Ok, Err, OnOk, OnErr, refl, sym, ap, subst, ◌∙◌, arith, length-append}
use Rattle.std.specs.Prelude.{not, ◌==◌}
use Rattle.std.proofs.lemmas.Bool.{eqb-true, le-leb}
use Rattle.std.proofs.lemmas.List.{nil_from_length}
use Rattle.kdb_outside.specs.declared.disks.Disk.{Ghosts}
use Rattle.kdb_outside.specs.declared.faults.Failed.{Failed}
use Rattle.kdb_outside.specs.Frames.{OnlyReads}
use Rattle.kdb_outside.specs.Images.{Image, IsImage, KeepsImages}
use Rattle.journal_codec.specs.declared.files.FileText.{FileText}
use Rattle.journal_codec.specs.Entry.{IsEntry}
use Rattle.journal_codec.specs.Forms.{spelled_on, behind_gate}
use Rattle.journal_codec.specs.Header.{header_bytes}
use Rattle.journal_lists.specs.Grammar.{head_size, last_place}
use Rattle.journal_lists.specs.Heads.{head_bytes, front_size}
use Rattle.journal_lists.proofs.Heads.{length_front, header_bytes_is}
use Rattle.journal_steps.specs.Moments.{LeavesOnly}
use Rattle.journal_steps.specs.Outcomes.{with_entry, with_entries, IsOutcome, IsEither}
use Rattle.intent_journal.specs.Journal.{JournalValue, has_room, IsList}
use Rattle.intent_journal.specs.Opens.{has_any}
use Rattle.intent_journal.specs.Outcomes.{HasOnly}
use Rattle.intent_journal.specs.Passing.{IsSame, SettlesList, SettlesHead, FinishesList}
use Rattle.intent_journal.specs.States.{IsListed, IsInDoubt, IsBare, IsHeadInDoubt, IsSettled, IsUnfinished, KeepsUnlisted, RestsAs}
use Rattle.intent_journal.specs.Steps.{IsStep, Passes}
use Rattle.intent_journal.proofs.Images.{listed_doubt, doubt_any, bare_doubt, bare_settled, listed_settled, rests_only}
use Rattle.intent_journal.proofs.Opened.{listed_read, doubt_read, bare_read, head_read}
use Rattle.intent_journal.proofs.Sound.{no_list, list_more}
use Rattle.model_crashes.proofs.Moments.{only_follows, only_both}
use Rattle.model_crashes.proofs.Reached.{only_weaker, with_entries-append}
use Rattle.store_phases.specs.Phases.{KeepsRest}
use Rattle.store_phases.specs.Resting.{IsResting}

-- ---- words

pub cases_of : (b : Bool) → (b ≡ false) ⊎ (b ≡ true)
cases_of false = inl refl
cases_of true = inr refl

pub not_both : (b : Bool) → b ≡ false → b ≢ true
not_both b off on = let both : false ≡ true = sym off ∙ on in cc

-- a list that is found empty, and one that is not
pub no_entry : (list : List (List FileText)) → not (has_any list) ≡ true → list ≡ []
no_entry list none = nil_from_length list (eqb-true (length list) 0 (twice (length list == 0) none))
  where
    twice : (b : Bool) → not (not b) ≡ true → b ≡ true
    twice true is = refl
    twice false is = is

pub some_entry : (list : List (List FileText)) → not (has_any list) ≡ false → list ≢ []
some_entry list some is =
    let none : not (has_any list) ≡ true = ap (λ (es : List (List FileText)). not (has_any es)) is in cc

-- an entry as it is put: the length, the body, and a closed gate
pub encoded_size : (entry : List FileText) (encoded : List ℕ) → encoded ≡ behind_gate entry ++ 0 ∷ []
    → length encoded ≡ length (spelled_on entry) + 5
encoded_size entry encoded is =
    let sized = ap length is in
    let joined = length-append (behind_gate entry) (0 ∷ []) in
    omega arith

room_at_first : (size : ℕ) → size ≤ 67200000 → has_room [] size ≡ true
room_at_first size short = le-leb (head_size + size) last_place (omega arith)

-- a header as it is written has as many bytes as stand before the list then
header_size_is : (names : List (List ℕ)) (header : List ℕ) → header ≡ header_bytes names
    → length header ≡ front_size names
header_size_is names header is =
    let sized = ap length (is ∙ header_bytes_is names) in
    let joined = length-append (head_bytes names) (0 ∷ []) in
    let front = length_front names in
    omega arith

-- ---- what each image of a resting journal stands for

pub resting_only : {D : Type 0} (g : Ghosts D) (journal : JournalValue D) (names : List (List ℕ)) (files : Image)
    (doubt : Option (List FileText)) → IsResting g journal names files doubt
    → (image : Image) → IsImage (g.may_leave journal.disk) image → HasOnly (IsEither files doubt) image
resting_only g journal names files doubt rests image is =
    subst (λ (f : Image). HasOnly (IsEither f doubt) image) (sym rests.with_list)
    (rests_only journal.headed journal.in_doubt (g.may_leave journal.disk) names rests.before journal.list doubt rests.rests image is)

-- the files that no entry of its list names are those from before it
unlisted : (headed in_doubt : Bool) (leaves : List ℕ → List ℕ → Type 0) (names : List (List ℕ)) (before : Image)
    (list : List (List FileText)) (doubt : Option (List FileText))
    → RestsAs headed in_doubt leaves names before list doubt → KeepsUnlisted leaves before list
unlisted true false leaves names before list doubt state = state.same
unlisted true true leaves names before list doubt state = state.same
unlisted false false leaves names before list doubt state =
    subst (λ (es : List (List FileText)). KeepsUnlisted leaves before es) (sym state.0) state.1.same
unlisted false true leaves names before list doubt state =
    subst (λ (es : List (List FileText)). KeepsUnlisted leaves before es) (sym state.0) state.1.same

pub resting_files : {D : Type 0} (g : Ghosts D) (journal : JournalValue D) (names : List (List ℕ)) (files : Image)
    (doubt : Option (List FileText)) → IsResting g journal names files doubt
    → journal.list ≡ [] → KeepsUnlisted (g.may_leave journal.disk) files []
resting_files g journal names files doubt rests none =
    let is : files ≡ rests.before = subst (λ (es : List (List FileText)). files ≡ with_entries rests.before es) none rests.with_list in
    subst (λ (f : Image). KeepsUnlisted (g.may_leave journal.disk) f []) (sym is)
    (subst (λ (es : List (List FileText)). KeepsUnlisted (g.may_leave journal.disk) rests.before es) none
    (unlisted journal.headed journal.in_doubt (g.may_leave journal.disk) names rests.before journal.list doubt rests.rests))

-- no gate is in doubt, and no entry waits: nothing can come in
settled_as : (headed : Bool) (leaves : List ℕ → List ℕ → Type 0) (names : List (List ℕ)) (before : Image)
    (doubt : Option (List FileText)) → RestsAs headed false leaves names before [] doubt
    → IsSettled leaves before
settled_as true leaves names before doubt state = listed_settled leaves names before state
settled_as false leaves names before doubt state = bare_settled leaves before state.1

pub rests_settled : {D : Type 0} (g : Ghosts D) (journal : JournalValue D) (names : List (List ℕ)) (files : Image)
    (doubt : Option (List FileText)) → IsResting g journal names files doubt
    → journal.list ≡ [] → journal.in_doubt ≡ false → IsSettled (g.may_leave journal.disk) files
rests_settled g journal names files doubt rests none sure =
    let leaves = g.may_leave journal.disk in
    let is : files ≡ rests.before = subst (λ (es : List (List FileText)). files ≡ with_entries rests.before es) none rests.with_list in
    subst (λ (f : Image). IsSettled leaves f) (sym is)
    (settled_as journal.headed leaves names rests.before doubt
    (subst (λ (s : Bool × List (List FileText)). RestsAs journal.headed s.0 leaves names rests.before s.1 doubt) (λ i. (sure i, none i)) rests.rests))

-- ---- what makes a journal rest

module _ {D : Type 0} (g : Ghosts D) (journal : JournalValue D) (names : List (List ℕ)) (files before : Image) (list : List (List FileText)) (doubt : Option (List FileText)) where
  -- its gates, and its list
  pub rests_at : (headed in_doubt : Bool) → journal.headed ≡ headed → journal.in_doubt ≡ in_doubt → journal.list ≡ list
      → g.tells journal.disk ≡ true → files ≡ with_entries before list
      → (headed ≡ true → journal.start ≡ front_size names)
      → RestsAs headed in_doubt (g.may_leave journal.disk) names before list doubt
      → IsResting g journal names files doubt
  rests_at headed in_doubt is_headed is_doubt is_list tells with_list start state = record {
    tells = tells;
    before = before;
    with_list = subst (λ (es : List (List FileText)). files ≡ with_entries before es) (sym is_list) with_list;
    start = λ on. start (sym is_headed ∙ on);
    rests =
        subst (λ (s : Bool × Bool × List (List FileText)). RestsAs s.0 s.1 (g.may_leave journal.disk) names before s.2 doubt)
        (λ i. (sym is_headed i, sym is_doubt i, sym is_list i)) state;
  }

-- the doubt doesn't matter where no gate is in it
sure_as : (headed : Bool) (leaves : List ℕ → List ℕ → Type 0) (names : List (List ℕ)) (before : Image)
    (list : List (List FileText)) (doubt other : Option (List FileText))
    → RestsAs headed false leaves names before list doubt → RestsAs headed false leaves names before list other
sure_as true leaves names before list doubt other state = state
sure_as false leaves names before list doubt other state = state

pub rests_sure : {D : Type 0} (g : Ghosts D) (journal : JournalValue D) (names : List (List ℕ)) (files : Image)
    (doubt other : Option (List FileText)) → IsResting g journal names files doubt
    → journal.in_doubt ≡ false → IsResting g journal names files other
rests_sure g journal names files doubt other rests sure =
    let leaves = g.may_leave journal.disk in
    rests_at g journal names files rests.before journal.list other journal.headed false refl sure refl rests.tells rests.with_list rests.start
    (sure_as journal.headed leaves names rests.before journal.list doubt other (subst (λ (b : Bool). RestsAs journal.headed b leaves names rests.before journal.list doubt) sure rests.rests))

-- ---- what a crash leaves meanwhile

-- the files with a list are the files behind it, while a gate is in doubt and while none is
pub either_moment : {D : Type 0} (g : Ghosts D) (old new : D) (files last : Image) (doubt : Option (List FileText))
    → files ≡ last → LeavesOnly g old new (HasOnly (IsEither last doubt))
    → LeavesOnly g old new (HasOnly (IsEither files doubt))
either_moment g old new files last doubt is only =
    subst (λ (f : Image). LeavesOnly g old new (HasOnly (IsEither f doubt))) (sym is) only

pub outcome_moment : {D : Type 0} (g : Ghosts D) (old new : D) (files last : Image) (doubt : Option (List FileText))
    → files ≡ last → LeavesOnly g old new (HasOnly (IsOutcome last))
    → LeavesOnly g old new (HasOnly (IsEither files doubt))
outcome_moment g old new files last doubt is only =
    either_moment g old new files last doubt is
    (only_follows g old new (HasOnly (IsOutcome last)) (HasOnly (IsEither last doubt)) (λ image has. only_weaker (IsOutcome last) (IsEither last doubt) image (λ outcome same. inl same) has) only)

-- no doubt is any doubt
pub either_any : (files : Image) (doubt : Option (List FileText)) (image : Image) → HasOnly (IsEither files None) image
    → HasOnly (IsEither files doubt) image
either_any files doubt image only = only_weaker (IsEither files None) (IsEither files doubt) image follows only
  where
    follows : (outcome : Image) → IsEither files None outcome → IsEither files doubt outcome
    follows outcome (inl same) = inl same
    follows outcome (inr with_one) =
        let none : ◌≡◌ {A = Option (List FileText)} None (Some with_one.0) = with_one.1 in absurd cc

-- one step behind another
pub moments_then : {D : Type 0} (g : Ghosts D) (old mid new : D) (P : Image → Type 0) → g.moment old ≤ g.moment mid
    → LeavesOnly g old mid P → LeavesOnly g mid new P → LeavesOnly g old new P
moments_then g old mid new P later first second =
    only_both g old mid new P P P (λ image has. has) (λ image has. has) later first second

pub rest_then : {D : Type 0} (g : Ghosts D) (old mid new : JournalValue D) (names : List (List ℕ)) (files : Image)
    (doubt : Option (List FileText)) → g.moment old.disk ≤ g.moment mid.disk
    → KeepsRest g old mid names files doubt → KeepsRest g mid new names files doubt
    → KeepsRest g old new names files doubt
rest_then g old mid new names files doubt later first second = record {
  rests = second.rests;
  any_moment = moments_then g old.disk mid.disk new.disk (HasOnly (IsEither files doubt)) later first.any_moment second.any_moment;
}

-- ---- the gate in doubt is closed

module _ {D : Type 0} (g : Ghosts D) (old new : JournalValue D) (r : Result Unit Failed) (names : List (List ℕ)) (files : Image) (doubt : Option (List FileText))
    (same : IsSame old new) (step : IsStep g old new r) (ok : OnOk r (new.in_doubt ≡ false)) (err : OnErr r (new.in_doubt ≡ true)) (rests : IsResting g old names files doubt) where
  tells : g.tells new.disk ≡ true
  tells = step.goes.tells ∙ rests.tells

  -- behind the list
  list_settled : (headed : old.headed ≡ true)
      → Passes g old.disk new.disk r (λ leaves. IsListed leaves names rests.before old.list) (λ leaves. IsInDoubt leaves names rests.before old.list doubt) (IsEither (with_entries rests.before old.list) doubt)
      → KeepsRest g old new names files doubt
  list_settled headed passes = record {
    rests = by r ok err passes.ok passes.err;
    any_moment = either_moment g old.disk new.disk files (with_entries rests.before old.list) doubt rests.with_list passes.any_moment;
  }
    where
      start : true ≡ true → new.start ≡ front_size names
      start _ = same.start ∙ rests.start headed

      by : (o : Result Unit Failed) → OnOk o (new.in_doubt ≡ false) → OnErr o (new.in_doubt ≡ true)
          → OnOk o (IsListed (g.may_leave new.disk) names rests.before old.list)
          → OnErr o (IsInDoubt (g.may_leave new.disk) names rests.before old.list doubt)
          → IsResting g new names files doubt
      by (Ok x) sure in_doubt done undone =
          rests_at g new names files rests.before old.list doubt true false (same.headed ∙ headed) sure same.list tells rests.with_list start done
      by (Err e) sure in_doubt done undone =
          rests_at g new names files rests.before old.list doubt true true (same.headed ∙ headed) in_doubt same.list tells rests.with_list start undone

  -- before the header
  head_settled : (bare : old.headed ≡ false) → old.list ≡ []
      → Passes g old.disk new.disk r (λ leaves. IsBare leaves rests.before) (λ leaves. IsHeadInDoubt leaves rests.before doubt) (IsEither rests.before doubt)
      → KeepsRest g old new names files doubt
  head_settled bare none passes = record {
    rests = by r ok err passes.ok passes.err;
    any_moment = either_moment g old.disk new.disk files rests.before doubt is passes.any_moment;
  }
    where
      is : files ≡ rests.before
      is = subst (λ (es : List (List FileText)). files ≡ with_entries rests.before es) none rests.with_list

      start : false ≡ true → new.start ≡ front_size names
      start on = absurd cc

      by : (o : Result Unit Failed) → OnOk o (new.in_doubt ≡ false) → OnErr o (new.in_doubt ≡ true)
          → OnOk o (IsBare (g.may_leave new.disk) rests.before)
          → OnErr o (IsHeadInDoubt (g.may_leave new.disk) rests.before doubt) → IsResting g new names files doubt
      by (Ok x) sure in_doubt done undone =
          rests_at g new names files rests.before [] doubt false false (same.headed ∙ bare) sure (same.list ∙ none) tells is start (refl, done)
      by (Err e) sure in_doubt done undone =
          rests_at g new names files rests.before [] doubt false true (same.headed ∙ bare) in_doubt (same.list ∙ none) tells is start (refl, undone)

  pub settled_rest : SettlesList g old new r → SettlesHead g old new r → KeepsRest g old new names files doubt
  settled_rest settles bares = by old.headed old.in_doubt refl refl rests.rests
    where
      leaves : List ℕ → List ℕ → Type 0
      leaves = g.may_leave old.disk

      by : (headed in_doubt : Bool) → old.headed ≡ headed → old.in_doubt ≡ in_doubt
          → RestsAs headed in_doubt leaves names rests.before old.list doubt → KeepsRest g old new names files doubt
      by true false headed sure state =
          list_settled headed (settles rests.tells names rests.before headed (rests.start headed) doubt (listed_doubt leaves names rests.before old.list doubt state))
      by true true headed in_doubt state =
          list_settled headed (settles rests.tells names rests.before headed (rests.start headed) doubt state)
      by false false bare sure state =
          head_settled bare state.0 (bares rests.tells bare rests.before doubt (bare_doubt leaves rests.before doubt state.1))
      by false true bare in_doubt state = head_settled bare state.0 (bares rests.tells bare rests.before doubt state.1)

-- ---- the list is brought in

module _ {D : Type 0} (g : Ghosts D) (old new : JournalValue D) (r : Result Unit Failed) (names : List (List ℕ)) (files : Image) (doubt : Option (List FileText))
    (headed : old.headed ≡ true) (sure : old.in_doubt ≡ false) (rests : IsResting g old names files doubt) where
  -- an open header gate, and no doubt
  pub rests_listed : IsListed (g.may_leave old.disk) names rests.before old.list
  rests_listed =
      subst (λ (s : Bool × Bool). RestsAs s.0 s.1 (g.may_leave old.disk) names rests.before old.list doubt) (λ i. (headed i, sure i)) rests.rests

  pub finished_rest : IsStep g old new r → (new.headed ≡ true) × (new.start ≡ old.start)
      → OnOk r ((new.in_doubt ≡ false) × (new.list ≡ []))
      → OnErr r (new.in_doubt ≡ false → new.list ≡ old.list) → OnErr r (new.in_doubt ≡ true → new.list ≡ [])
      → FinishesList g old new r → KeepsRest g old new names files doubt
  finished_rest step head ok lag none finishes = record {
    rests = by r ok lag none passes.ok passes.err;
    any_moment = outcome_moment g old.disk new.disk files (with_entries rests.before old.list) doubt rests.with_list passes.any_moment;
  }
    where
      leaves : List ℕ → List ℕ → Type 0
      leaves = g.may_leave new.disk

      after : Image
      after = with_entries rests.before old.list

      passes : Passes g old.disk new.disk r (λ at. IsListed at names after []) (IsUnfinished new.in_doubt names rests.before old.list) (IsOutcome after)
      passes = finishes rests.tells names rests.before headed (rests.start headed) rests_listed

      tells : g.tells new.disk ≡ true
      tells = step.goes.tells ∙ rests.tells

      start : true ≡ true → new.start ≡ front_size names
      start _ = head.1 ∙ rests.start headed

      unfinished : (in_doubt : Bool) → new.in_doubt ≡ in_doubt → (new.in_doubt ≡ false → new.list ≡ old.list)
          → (new.in_doubt ≡ true → new.list ≡ []) → IsUnfinished in_doubt names rests.before old.list leaves
          → IsResting g new names files doubt
      unfinished false is lag none state =
          rests_at g new names files rests.before old.list doubt true false head.0 is (lag is) tells rests.with_list start state
      unfinished true is lag none state =
          rests_at g new names files after [] doubt true true head.0 is (none is) tells rests.with_list start (doubt_any leaves names after [] doubt state)

      by : (o : Result Unit Failed) → OnOk o ((new.in_doubt ≡ false) × (new.list ≡ []))
          → OnErr o (new.in_doubt ≡ false → new.list ≡ old.list) → OnErr o (new.in_doubt ≡ true → new.list ≡ [])
          → OnOk o (IsListed leaves names after [])
          → OnErr o (IsUnfinished new.in_doubt names rests.before old.list leaves) → IsResting g new names files doubt
      by (Ok x) ok lag none done undone =
          rests_at g new names files after [] doubt true false head.0 ok.0 ok.1 tells rests.with_list start done
      by (Err e) ok lag none done undone = unfinished new.in_doubt refl lag none undone

-- ---- room for an entry

-- a list has it still where only its gate was closed
pub settled_room : {D : Type 0} (new : JournalValue D) (list : List (List FileText)) (size : ℕ) (r : Result Unit Failed)
    → new.list ≡ list → has_room list size ≡ true → OnOk r (new.in_doubt ≡ false)
    → OnOk r ((new.in_doubt ≡ false) × (has_room new.list size ≡ true))
settled_room new list size (Ok x) same room sure =
    (sure, subst (λ (es : List (List FileText)). has_room es size ≡ true) (sym same) room)
settled_room new list size (Err e) same room sure = tt

-- and an empty list has it for each
module _ {D : Type 0} (new : JournalValue D) (size : ℕ) where
  pub cleaned_room : (r : Result Unit Failed) → size ≤ 67200000 → OnOk r ((new.list ≡ []) × (new.in_doubt ≡ false))
      → OnOk r ((new.in_doubt ≡ false) × (has_room new.list size ≡ true))
  cleaned_room (Ok x) short state =
      (state.1, subst (λ (es : List (List FileText)). has_room es size ≡ true) (sym state.0) (room_at_first size short))
  cleaned_room (Err e) short state = tt

  pub cleaned_fits : (r : Result Unit Failed) → size ≤ 67200000 → OnOk r ((new.list ≡ []) × (new.in_doubt ≡ false))
      → OnOk r ((entry : List FileText) → IsEntry entry → size ≡ length (spelled_on entry) → IsList (new.list ++ entry ∷ []))
  cleaned_fits (Ok x) short state = λ entry is sized.
      subst (λ (es : List (List FileText)). IsList (es ++ entry ∷ [])) (sym state.0) (list_more [] entry size no_list is sized (room_at_first size short))
  cleaned_fits (Err e) short state = tt

-- nothing can come in behind a cleaning that went well
pub cleaned_settled : {D : Type 0} (g : Ghosts D) (new : JournalValue D) (names : List (List ℕ)) (files : Image)
    (doubt : Option (List FileText)) (r : Result Unit Failed)
    → OnOk r ((new.list ≡ []) × (new.in_doubt ≡ false)) → IsResting g new names files doubt
    → OnOk r (IsSettled (g.may_leave new.disk) files)
cleaned_settled g new names files doubt (Ok x) state rests = rests_settled g new names files doubt rests state.0 state.1
cleaned_settled g new names files doubt (Err e) state rests = tt

-- ---- the head is put

module _ {D : Type 0} (g : Ghosts D) (old : JournalValue D) (names : List (List ℕ)) (files : Image) (doubt : Option (List FileText)) (bare : old.headed ≡ false) (sure : old.in_doubt ≡ false)
    (rests : IsResting g old names files doubt) where
  -- a closed header gate, and no doubt
  pub bare_rests : (old.list ≡ []) × IsBare (g.may_leave old.disk) rests.before
  bare_rests =
      subst (λ (s : Bool × Bool). RestsAs s.0 s.1 (g.may_leave old.disk) names rests.before old.list doubt) (λ i. (bare i, sure i)) rests.rests

  bare_files : files ≡ rests.before
  bare_files = subst (λ (es : List (List FileText)). files ≡ with_entries rests.before es) bare_rests.0 rests.with_list

  pub headed_rest : (new : JournalValue D) (r : Result Unit Failed) (header : List ℕ) → header ≡ header_bytes names
      → new.list ≡ old.list → IsStep g old new r
      → OnOk r ((new.headed ≡ true) × (new.in_doubt ≡ false) × (new.start ≡ length header))
      → OnErr r ((new.headed ≡ false) × (new.in_doubt ≡ true))
      → Passes g old.disk new.disk r (λ leaves. IsListed leaves names rests.before []) (λ leaves. IsHeadInDoubt leaves rests.before None) (IsOutcome rests.before)
      → KeepsRest g old new names files None
  headed_rest new r header is list step ok err passes = record {
    rests = by r ok err passes.ok passes.err;
    any_moment = outcome_moment g old.disk new.disk files rests.before None bare_files passes.any_moment;
  }
    where
      tells : g.tells new.disk ≡ true
      tells = step.goes.tells ∙ rests.tells

      none : new.list ≡ []
      none = list ∙ bare_rests.0

      by : (o : Result Unit Failed)
          → OnOk o ((new.headed ≡ true) × (new.in_doubt ≡ false) × (new.start ≡ length header))
          → OnErr o ((new.headed ≡ false) × (new.in_doubt ≡ true))
          → OnOk o (IsListed (g.may_leave new.disk) names rests.before [])
          → OnErr o (IsHeadInDoubt (g.may_leave new.disk) rests.before None) → IsResting g new names files None
      by (Ok x) ok err done undone =
          rests_at g new names files rests.before [] None true false ok.0 ok.1 none tells bare_files (λ _. ok.2 ∙ header_size_is names header is) done
      by (Err e) ok err done undone =
          rests_at g new names files rests.before [] None false true err.0 err.1 none tells bare_files (λ on. absurd (not_both false refl on)) (refl, undone)

-- ---- the gate is opened on an entry

module _ {D : Type 0} (g : Ghosts D) (new : JournalValue D) (names : List (List ℕ)) (files before : Image) (list : List (List FileText)) (entry : List FileText) (tells : g.tells new.disk ≡ true)
    (with_list : files ≡ with_entries before list) (head : new.headed ≡ true) (start : new.start ≡ front_size names) where
  with_one_more : with_entry files entry ≡ with_entries before (list ++ entry ∷ [])
  with_one_more = ap (λ (f : Image). with_entry f entry) with_list ∙ sym (with_entries-append before list (entry ∷ []))

  pub opened_rests : (r : Result Unit Failed) → OnOk r ((new.in_doubt ≡ false) × (new.list ≡ list ++ entry ∷ []))
      → OnOk r (IsListed (g.may_leave new.disk) names before (list ++ entry ∷ []))
      → OnOk r (IsResting g new names (with_entry files entry) None)
  opened_rests (Ok x) state listed =
      rests_at g new names (with_entry files entry) before (list ++ entry ∷ []) None true false head state.0 state.1 tells with_one_more (λ _. start) listed
  opened_rests (Err e) state listed = tt

  pub unopened_rests : (r : Result Unit Failed) → OnErr r ((new.in_doubt ≡ true) × (new.list ≡ list))
      → OnErr r (IsInDoubt (g.may_leave new.disk) names before list (Some entry))
      → OnErr r (IsResting g new names files (Some entry))
  unopened_rests (Ok x) state doubtful = tt
  unopened_rests (Err e) state doubtful =
      rests_at g new names files before list (Some entry) true true head state.0 state.1 tells with_list (λ _. start) doubtful

-- where nothing failed, all went well
pub unless : (r : Result Unit Failed) (P R : Type 0) → OnOk r P → OnErr r R → ¬ R → P
unless (Ok x) P R well failed never = well
unless (Err e) P R well failed never = absurd (never failed)

-- ---- a disk that was only read

rests_kept : (headed in_doubt : Bool) (old new : List ℕ → List ℕ → Type 0) (names : List (List ℕ)) (before : Image)
    (list : List (List FileText)) (doubt : Option (List FileText)) → KeepsImages old new
    → RestsAs headed in_doubt old names before list doubt → RestsAs headed in_doubt new names before list doubt
rests_kept true false old new names before list doubt kept state = listed_read old new kept names before list state
rests_kept true true old new names before list doubt kept state = doubt_read old new kept names before list doubt state
rests_kept false false old new names before list doubt kept state = (state.0, bare_read old new kept before state.1)
rests_kept false true old new names before list doubt kept state =
    (state.0, head_read old new kept before doubt state.1)

-- all but the disk is as it was
pub rests_read : {D : Type 0} (g : Ghosts D) (old new : JournalValue D) (names : List (List ℕ)) (files : Image)
    (doubt : Option (List FileText)) → OnlyReads g old.disk new.disk → IsSame old new
    → new.in_doubt ≡ old.in_doubt → IsResting g old names files doubt → IsResting g new names files doubt
rests_read g old new names files doubt reads same in_doubt rests =
    rests_at g new names files rests.before old.list doubt old.headed old.in_doubt same.headed in_doubt same.list (reads.tells ∙ rests.tells) rests.with_list
    (λ headed. same.start ∙ rests.start headed)
    (rests_kept old.headed old.in_doubt (g.may_leave old.disk) (g.may_leave new.disk) names rests.before old.list doubt (reads.images rests.tells) rests.rests)
