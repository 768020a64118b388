-- A handle is one of its store's after each turn.
use Rattle.std.proofs.Common.{◌≡◌, inl, inr, ℕ, ◌+◌, ◌≤◌, nat_eq, Bool, true, false, cond, List, [], ◌∷◌, ◌++◌, length, map as over, Option, Some, None, Result, Ok, Err, IfOk, IfErr, refl, sym, ap, ap₂, subst, ◌∙◌, append-nil, length-append, arith, eq-eqb}
use mathlib.Core.List.{IsPrefix}
use Rattle.std.specs.Coded.{Coded}
use Rattle.std.proofs.lemmas.Bool.{le-leb}
use Rattle.general_words.proofs.Tests.{both, true_is}
use Rattle.kdb_outside.specs.declared.disks.Disk.{Ghosts}
use Rattle.kdb_handle.specs.Fronts.{Cover}
use Rattle.kdb_handle.specs.Gets.{IsGotAt}
use Rattle.atomic_table.specs.Seated.{TableId}
use Rattle.kdb_handle.specs.Handles.{HandleValue, IsSeated, handle_with}
use Rattle.kdb_handle.specs.Opened.{store_at}
use Rattle.kdb_handle.specs.Shares.{IsShared}
use Rattle.kdb_handle.specs.Story.{Told, Opening, Committed, Failed, Refused, maker_of, commits_of}
use Rattle.kdb_handle.specs.Stores.{IsHandle}
use Rattle.kdb_handle.specs.Sets.{IsDone, tells_refusal}
use Rattle.kdb_handle.specs.Turns.{IsPrepared, MayCommit, told_by, is_refusal, record_by}
use Rattle.kdb_handle.specs.UndoTurns.{MayUndo}
use Rattle.model_store.proofs.Accepting.{put-here}
use Rattle.kdb_handle.proofs.CoverLemmas.{cover-got, cover-judged, cover-seen, others-behind}
use Rattle.kdb_handle.proofs.RecordLemmas.{numbered, own_fronts, record-seen}
use Rattle.kdb_handle.proofs.StoryLemmas.{commits-append, commits-behind, commits-prefix, one_opening, prefix-both}
use Rattle.model_history.specs.History as past
use Rattle.model_history.specs.History.{is_among, replay}
use Rattle.model_maps.specs.KeyMap.{KeyMap, no_keys}
use Rattle.model_names.specs.Name.{Name}
use Rattle.model_rules.specs.Rules.{longest_pattern}
use Rattle.model_store.specs.Cores as cores
use Rattle.model_store.specs.Cores.{GetMade, Made, keeping}
use Rattle.model_store.specs.Events as event
use Rattle.model_store.specs.Events.{first_bad, if_bad, put}
use Rattle.model_store.specs.Records as model
use Rattle.model_store.specs.Legal.{IsLegal}
use Rattle.model_store.specs.Records.{IsRecord, seen_at, no_record}
use Rattle.model_store.specs.Sets as sets
use Rattle.model_store.specs.Sets.{front_in, wants}
use Rattle.model_store.specs.Store.{Store, Formats, points_of, store_of}
use Rattle.model_store.specs.Verdicts.{commit_of}
use Rattle.model_store.proofs.Kept.{record-moves, good_mount}
use Rattle.model_store.proofs.Members.{nothing_at}
use Rattle.model_store.proofs.OneVerdict.{breach-as}
use Rattle.mounted_files.specs.declared.files.MountedFile.{MountedFile}
use Rattle.mounted_files.specs.declared.refusals.GetFault.{GetFault}
use Rattle.seat_lock.specs.Known.{Known, Place, knowledge}
use Rattle.seat_lock.specs.Story.{made_by, IsOneTurn}
use Rattle.seat_lock.proofs.Entries.{made-append, made-prefix}
use Rattle.seat_lock.proofs.Prefixes.{prefix-trans, prefix-more}
use Rattle.set_split.specs.Involved.{involved_in}
use Rattle.store_core.specs.Answers.{IsJudged}
use Rattle.store_core.specs.Cores.{core_with}
use Rattle.store_core.specs.Gets.{HasGot, IsGot}
use Rattle.store_core.specs.declared.committing.CommitFault.{CommitFault}
use Rattle.store_core.specs.declared.committing.CommitFault.TheVariants as fault
use Rattle.store_core.specs.declared.committing.Done.{Done}
use Rattle.store_core.specs.declared.committing.Done.TheVariants as done
use Rattle.store_core.specs.declared.cores.Core.{Core}
use Rattle.store_core.specs.declared.cores.Plan.{Plan}
use Rattle.store_core.specs.declared.getting.Got.{Got}
use Rattle.general_words.specs.Memory.{UnlessMemory}
use Rattle.mounted_files.specs.Visible.{visible_keys}
use Rattle.store_verdict.specs.Preparing.{IsMade, IsRefused as IsSetRefused}
use Rattle.store_verdict.specs.declared.faults.PrepareFault.{PrepareFault}
use Rattle.store_verdict.specs.declared.faults.PrepareFault.TheVariants as prepare_fault
use Rattle.store_verdict.specs.PreparedView.{prepared_of}
use Rattle.store_verdict.specs.ProcKeys.{AreProc}
use Rattle.store_verdict.specs.RecordView.{handle_of, places_of, proc_of, record_of}
use Rattle.store_verdict.specs.declared.prepared.Prepared.{Prepared}
use Rattle.store_verdict.specs.declared.records.Record.{Record}

-- the story that a turn found is that of the plan's opening
pub same_opening : {D P : Type 0} (formats : Formats) (g : Ghosts D) (code : Coded D) (refused : P → ℕ) {F : Type 0}
    (lock : Place Told) (plan : Plan F) (handle : HandleValue) (core : Core D P) (entries : ℕ) (log : List Told)
    → IsHandle lock plan handle → IsPrefix handle.seen log → (shared : IsShared formats g code refused core entries log)
    → shared.opening.files ≡ plan.mounted
same_opening formats g code refused lock plan handle core entries log is seen shared =
    let start = is.started.start in
    let first = subst (λ (l : List Told). IsPrefix l log) start (prefix-trans lock.start handle.seen log is.begins seen) in
    ap (λ (o : Opening). o.files) (sym (one_opening _ shared.opening log shared.rest first shared.log_is))
    ∙ is.started.files

-- what the story tells of the history
pub shared_history : {D P : Type 0} (formats : Formats) (g : Ghosts D) (code : Coded D) (refused : P → ℕ)
    (core : Core D P) (entries : ℕ) (log : List Told) → (shared : IsShared formats g code refused core entries log)
    → core.history.commits ≡ commits_of log
shared_history formats g code refused core entries log shared = shared.history ∙ sym (ap commits_of shared.log_is)

pub shared_keys : {D P : Type 0} (formats : Formats) (g : Ghosts D) (code : Coded D) (refused : P → ℕ)
    (files : List MountedFile) (core : Core D P) (entries : ℕ) (log : List Told)
    → (shared : IsShared formats g code refused core entries log) → shared.opening.files ≡ files
    → core.keys ≡ replay (visible_keys files) (commits_of log)
shared_keys formats g code refused files core entries log shared same =
    shared.keys
    ∙ ap₂ (λ (fs : List MountedFile) (cs : List past.Commit). replay (visible_keys fs) cs) same (sym (ap commits_of shared.log_is))

pub shared_legal : {D P : Type 0} (formats : Formats) (g : Ghosts D) (code : Coded D) (refused : P → ℕ)
    (files : List MountedFile) (core : Core D P) (entries : ℕ) (log : List Told)
    → (shared : IsShared formats g code refused core entries log) → shared.opening.files ≡ files
    → IsLegal formats (store_at files) (commits_of log)
shared_legal formats g code refused files core entries log shared same =
    subst (λ (cs : List past.Commit). IsLegal formats (store_at files) cs) (sym (ap commits_of shared.log_is))
    (subst (λ (fs : List MountedFile). IsLegal formats (store_at fs) (commits_of shared.rest)) same shared.legal)

-- who made nothing more gains no commit of its own in the history
none-gained : (number : ℕ) (seen found : List Told) (p : IsPrefix seen found)
    → made_by maker_of number found ≡ made_by maker_of number seen
    → past.commits_by number (commits-prefix seen found p).0 ≡ []
none-gained number seen found p same =
    ap (past.commits_by number) (commits-behind seen found p) ∙ others-behind number seen found p same

-- ---- a get

module _ (store : Store) (files : List MountedFile) (history : List past.Commit) {D P : Type 0} (core : Core D P) (history_is : core.history.commits ≡ history) (keys_are : core.keys ≡ replay store.start history) (known : ℕ → Option sets.Prepared) (parent : Name) (old new : Record) where
  abbrev n : ℕ
  n = handle_of old

  abbrev records : ℕ → model.Record
  records = put (handle_of old) (record_of old) (λ r. no_record)

  abbrev before : cores.Core
  before = core_with core records known

  abbrev after : cores.Core
  after = core_with core (put (handle_of old) (record_of new) records) known

  here : records (handle_of old) ≡ record_of old
  here = put-here (handle_of old) (record_of old) (λ r. no_record)

  same_record : after ≡ before → record_of new ≡ record_of old
  same_record is =
      sym (put-here (handle_of old) (record_of new) records) ∙ ap (λ (c : cores.Core). c.records (handle_of old)) is
      ∙ here

  module _ (formats : Formats) where
    got_ok : (got : Got) (answer : event.Answer) → answer ≡ event.Got got.front got.keys
        → Made formats store before (event.Get (handle_of old) parent) answer after
        → IsGotAt store files history (handle_of old) parent (record_of old) (record_of new) (Ok got)
    got_ok got answer is made =
        let m : GetMade store before (handle_of old) parent got.front got.keys after = subst (λ (a : event.Answer). Made formats store before (event.Get (handle_of old) parent) a after) is made in
        record {
          good = m.good;
          front = m.front_is ∙ ap (λ (cs : List past.Commit). length cs) history_is;
          keys = m.keys_are ∙ ap (λ (k : KeyMap). event.got store k (handle_of old) parent) keys_are;
          kept =
              sym (put-here (handle_of old) (record_of new) records)
              ∙ ap (λ (c : cores.Core). c.records (handle_of old)) m.next_is
              ∙ put-here (handle_of old) (keeping (involved_in (points_of store) parent) (length core.history.commits) (wants (points_of store) core.keys) (records (handle_of old))) records
              ∙ ap₂ (λ (cs : List past.Commit) (k : KeyMap). keeping (involved_in (points_of store) parent) (length cs) (wants (points_of store) k) (records (handle_of old))) history_is keys_are
              ∙ ap (keeping (involved_in (points_of store) parent) (length history) (wants (points_of store) (replay store.start history))) here;
        }

    got_err : (why : GetFault) (answer : event.Answer) → IsGot files (Err why) answer
        → Made formats store before (event.Get (handle_of old) parent) answer after
        → IsGotAt store files history (handle_of old) parent (record_of old) (record_of new) (Err why)
    got_err why answer (inl is) made =
        (inl is.0, same_record (subst (λ (a : event.Answer). Made formats store before (event.Get (handle_of old) parent) a after) is.1 made))
    got_err why answer (inr is) made =
        let m = subst (λ (a : event.Answer). Made formats store before (event.Get (handle_of old) parent) a after) is.2 made in
        (inr (is.0, is.1, m.0), same_record m.1)

    -- what a get gave, by the history that its turn found
    pub got_at : (result : Result Got GetFault) → HasGot formats store files core records known parent old new result
        → IsGotAt store files history (handle_of old) parent (record_of old) (record_of new) result
    got_at (Ok got) has = got_ok got has.answer has.is_answer has.made
    got_at (Err why) has = got_err why has.answer has.is_answer has.made

-- the record after a get is that of its fronts
module _ (store : Store) (files : List MountedFile) (history : List past.Commit) (parent : Name) (number handle : ℕ) (old new : model.Record) (h : IsRecord store history handle (front_in old) old) where
  pub record_got : (result : Result Got GetFault) → IsGotAt store files history number parent old new result
      → IsRecord store history handle (front_in new) new
  record_got (Ok got) gives =
      let involved : List ℕ = involved_in (points_of store) parent in
      own_fronts store history handle _ new
      (subst (λ (r : model.Record). IsRecord store history handle (seen_at involved (length history) (front_in old)) r) (sym gives.kept)
      (record-moves store history handle (front_in old) old involved (length history) (wants (points_of store) (replay store.start history)) h refl (λ m among. good m gives.good among) (λ m among. refl)))
    where
      good : (m : ℕ) → first_bad store parent ≡ None → is_among (involved_in (points_of store) parent) m ≡ true
          → store.is_bad m ≡ false
      good m none among =
          good_mount store m (nothing_at (if_bad store) (involved_in (points_of store) parent) m none among)
  record_got (Err why) refused =
      subst (λ (r : model.Record). IsRecord store history handle (front_in r) r) (sym refused.1) h

-- whose keys are in `proc` doesn't matter to a record
pub record-procs : (files : List MountedFile) (procs other : ℕ → KeyMap) (history : List past.Commit) (handle : ℕ)
    (fronts : model.Fronts) (rec : model.Record) → IsRecord (store_of files procs) history handle fronts rec
    → IsRecord (store_of files other) history handle fronts rec
record-procs files procs other history handle fronts rec h =
    record { within = h.within; good = h.good; is = h.is; count = h.count }

-- ---- the end of a turn

one-made : (number : ℕ) (entry : Told) → maker_of entry ≡ number → made_by maker_of number (entry ∷ []) ≡ entry ∷ []
one-made number entry is = ap (λ (b : Bool). cond b (entry ∷ []) []) (eq-eqb (maker_of entry) number is)

-- a turn tells one entry of its own at most
pub one_turn : (number : ℕ) (set : sets.Prepared) (result : Result Done CommitFault) → set.handle ≡ number
    → IsOneTurn maker_of number (told_by set result)
one_turn number set (Ok (done.Committed commit aside)) is = inr (Committed (commit_of set), is, refl)
one_turn number set (Ok (done.Same front aside)) is = inl refl
one_turn number set (Err (fault.Conflict mount by front)) is = inl refl
one_turn number set (Err (fault.FileTooLarge mount bytes front)) is = inl refl
one_turn number set (Err (fault.Invalid violation front)) is = by (is_refusal violation)
  where
    by : (b : Bool) → IsOneTurn maker_of number (cond b (Refused set.handle ∷ []) [])
    by true = inr (Refused set.handle, is, refl)
    by false = inl refl
one_turn number set (Err (fault.DatabaseFull weight front)) is = inl refl
one_turn number set (Err (fault.HistoryFull weight front)) is = inl refl
one_turn number set (Err (fault.DiskFault front)) is = inr (Failed (commit_of set), is, refl)
one_turn number set (Err fault.Memory) is = inl refl

pub made-turn : (number : ℕ) (told : List Told) → IsOneTurn maker_of number told → made_by maker_of number told ≡ told
made-turn number told (inl none) = subst (λ (l : List Told). made_by maker_of number l ≡ l) (sym none) refl
made-turn number told (inr one) =
    subst (λ (l : List Told). made_by maker_of number l ≡ l) (sym one.2) (one-made number one.0 one.1)

-- a handle is one of its store's after a turn
pub handle_moved : {F : Type 0} (lock : Place Told) (plan : Plan F) (old new : HandleValue) (found told : List Told)
    → IsHandle lock plan old → new.place ≡ old.place → new.number ≡ old.number → IsPrefix old.seen found
    → made_by maker_of old.number found ≡ old.own → new.seen ≡ found ++ told → new.own ≡ old.own ++ told
    → IsOneTurn maker_of old.number told → places_of new.rec ≡ places_of old.rec → proc_of new.rec ≡ proc_of old.rec
    → IsRecord (store_at plan.mounted) (commits_of (found ++ told)) old.number (front_in (record_of new.rec)) (record_of new.rec)
    → Cover (store_at plan.mounted) old.number (commits_of (found ++ told)) (front_in (record_of new.rec))
    → IsHandle lock plan new
handle_moved lock plan old new found told is place number seen own sees gains one places procs keeps covers = record {
  started = is.started;
  place = place ∙ is.place;
  begins = subst (λ (l : List Told). IsPrefix lock.start l) (sym sees) (prefix-more lock.start found told (prefix-trans lock.start old.seen found is.begins seen));
  own =
      gains ∙ ap₂ (λ (xs ys : List Told). xs ++ ys) (sym own) (sym (made-turn old.number told one))
      ∙ sym (made-append maker_of old.number found told)
      ∙ ap₂ (λ (n : ℕ) (l : List Told). made_by maker_of n l) (sym number) (sym sees);
  places = subst (λ n. length plan.mounted ≤ n) (sym places) is.places;
  keeps =
      numbered (store_at plan.mounted) (commits_of new.seen) old.number new.number (record_of new.rec) (sym number)
      (subst (λ (l : List Told). IsRecord (store_at plan.mounted) (commits_of l) old.number (front_in (record_of new.rec)) (record_of new.rec)) (sym sees) keeps);
  covers =
      subst (λ n. Cover (store_at plan.mounted) n (commits_of new.seen) (front_in (record_of new.rec))) (sym number)
      (subst (λ (l : List Told). Cover (store_at plan.mounted) old.number (commits_of l) (front_in (record_of new.rec))) (sym sees) covers);
  procs = subst AreProc (sym procs) is.procs;
}

-- of an answer it matters alone whether the pattern was refused that it tells
pub judged-as : (formats : Formats) (store : Store) (risen : Bool) (history : List past.Commit) (keys : KeyMap)
    (set : sets.Prepared) (result : Result Done CommitFault) → IsJudged formats store risen history keys set result
    → IsJudged formats store (tells_refusal result) history keys set result
judged-as formats store risen history keys set (Ok (done.Committed number aside)) judged = judged
judged-as formats store risen history keys set (Ok (done.Same front aside)) judged = judged
judged-as formats store risen history keys set (Err (fault.Conflict mount by front)) judged = judged
judged-as formats store risen history keys set (Err (fault.FileTooLarge mount bytes front)) judged = judged
judged-as formats store risen history keys set (Err (fault.Invalid violation front)) judged =
    (judged.0, breach-as formats store history keys set violation risen (is_refusal violation) (λ six short rose. both (nat_eq violation.rule 6) _ (true_is _ (eq-eqb violation.rule 6 six)) (true_is _ (le-leb (length violation.given) longest_pattern short))) judged.1)
judged-as formats store risen history keys set (Err (fault.DatabaseFull weight front)) judged = judged
judged-as formats store risen history keys set (Err (fault.HistoryFull weight front)) judged = judged
judged-as formats store risen history keys set (Err (fault.DiskFault front)) judged = judged
judged-as formats store risen history keys set (Err fault.Memory) judged = judged

module _ {D P : Type 0} (formats : Formats) (g : Ghosts D) (code : Coded D) (refused : P → ℕ) {F : Type 0} (lock : Place Told) (plan : Plan F) (old : HandleValue) (core : Core D P) (entries : ℕ) (found : List Told)
    (is : IsHandle lock plan old) (seen : IsPrefix old.seen found) (shared : IsShared formats g code refused core entries found) where
  opening : shared.opening.files ≡ plan.mounted
  opening = same_opening formats g code refused lock plan old core entries found is seen shared

  keeps : made_by maker_of old.number found ≡ old.own
      → IsRecord (store_at plan.mounted) (commits_of found) old.number (front_in (record_of old.rec)) (record_of old.rec)
  keeps made =
      record-seen (store_at plan.mounted) (commits_of old.seen) (commits_of found) old.number (record_of old.rec) (commits-prefix old.seen found seen)
      (none-gained old.number old.seen found seen (made ∙ is.own)) is.keeps

  keeps_by : handle_of old.rec ≡ old.number → made_by maker_of old.number found ≡ old.own
      → IsRecord (store_at plan.mounted) (commits_of found) (handle_of old.rec) (front_in (record_of old.rec)) (record_of old.rec)
  keeps_by number made =
      numbered (store_at plan.mounted) (commits_of found) old.number (handle_of old.rec) (record_of old.rec) (sym number) (keeps made)

  pub legal_found : IsLegal formats (store_at plan.mounted) (commits_of found)
  legal_found = shared_legal formats g code refused plan.mounted core entries found shared opening

  -- what a get gave, and that its record is kept
  pub get_found : (procs : ℕ → KeyMap) (parent : Name) (new : Record) (result : Result Got GetFault)
      → HasGot formats (store_of plan.mounted procs) plan.mounted core (put (handle_of old.rec) (record_of old.rec) (λ r. no_record)) (λ p. None) parent old.rec new result
      → IsGotAt (store_of plan.mounted procs) plan.mounted (commits_of found) (handle_of old.rec) parent (record_of old.rec) (record_of new) result
  get_found procs parent new result has =
      got_at (store_of plan.mounted procs) plan.mounted (commits_of found) core (shared_history formats g code refused core entries found shared) (shared_keys formats g code refused plan.mounted core entries found shared opening)
      (λ p. None) parent old.rec new formats result has

  pub get_keeps : made_by maker_of old.number found ≡ old.own
      → (procs : ℕ → KeyMap) (parent : Name) (new : Record) (result : Result Got GetFault)
      → HasGot formats (store_of plan.mounted procs) plan.mounted core (put (handle_of old.rec) (record_of old.rec) (λ r. no_record)) (λ p. None) parent old.rec new result
      → IsRecord (store_at plan.mounted) (commits_of found) old.number (front_in (record_of new)) (record_of new)
  get_keeps made procs parent new result has =
      record-procs plan.mounted procs (λ r. no_keys) (commits_of found) old.number (front_in (record_of new)) (record_of new)
      (record_got (store_of plan.mounted procs) plan.mounted (commits_of found) parent (handle_of old.rec) old.number (record_of old.rec) (record_of new)
      (record-procs plan.mounted (λ r. no_keys) procs (commits_of found) old.number (front_in (record_of old.rec)) (record_of old.rec) (keeps made)) result (get_found procs parent new result has))

  -- a set that was prepared for the handle may be committed
  pub may_commit : handle_of old.rec ≡ old.number → made_by maker_of old.number found ≡ old.own → (set : Prepared)
      → IsPrepared formats plan.mounted (handle_of old.rec) (record_of old.rec) set
      → MayCommit formats g code refused plan.mounted core entries found old.rec set
  may_commit number made set prepared =
      record {
        shared = shared;
        opening = opening;
        keeps = keeps_by number made;
        places = is.places;
        prepared = prepared;
      }

  -- and a commit may be taken back
  pub may_undo : handle_of old.rec ≡ old.number → made_by maker_of old.number found ≡ old.own
      → MayUndo formats g code refused plan.mounted core entries found old.rec
  may_undo number made =
      record { shared = shared; opening = opening; keeps = keeps_by number made; places = is.places; procs = is.procs }

  -- what a commit did
  pub is_done : (new : HandleValue) (set : Prepared) (result : Result Done CommitFault) (told : List Told)
      → made_by maker_of old.number found ≡ old.own → told ≡ told_by (prepared_of set) result → new.seen ≡ found ++ told
      → new.own ≡ old.own ++ told
      → ((risen : Bool) × IsJudged formats (store_at plan.mounted) risen core.history.commits core.keys (prepared_of set) result)
      → record_of new.rec
      ≡ record_by (store_at plan.mounted) core.history.commits (prepared_of set) result (record_of old.rec)
      → IsDone formats plan.mounted old new set result
  is_done new set result told own told_is sees gains judged kept =
      let history = shared_history formats g code refused core entries found shared in
      record {
        found = found;
        seen = seen;
        own = own;
        legal = legal_found;
        judged =
            subst (λ (cs : List past.Commit). IsJudged formats (store_at plan.mounted) (tells_refusal result) cs (replay (visible_keys plan.mounted) (commits_of found)) (prepared_of set) result) history
            (subst (λ (k : KeyMap). IsJudged formats (store_at plan.mounted) (tells_refusal result) core.history.commits k (prepared_of set) result) (shared_keys formats g code refused plan.mounted core entries found shared opening)
            (judged-as formats (store_at plan.mounted) judged.0 core.history.commits core.keys (prepared_of set) result judged.1));
        sees = sees ∙ ap (λ (l : List Told). found ++ l) told_is;
        gains = gains ∙ ap (λ (l : List Told). old.own ++ l) told_is;
        kept = kept ∙ ap (λ (cs : List past.Commit). record_by (store_at plan.mounted) cs (prepared_of set) result (record_of old.rec)) history;
      }

-- ---- a meeting

-- who sees what another has seen made nothing by it
pub handle_met : {F : Type 0} (lock : Place Told) (plan : Plan F) (old new : HandleValue) → IsHandle lock plan old
    → new.place ≡ old.place → new.number ≡ old.number → IsPrefix old.seen new.seen → new.own ≡ old.own
    → new.rec ≡ old.rec
    → IsPrefix (made_by maker_of old.number new.seen) old.own → IsHandle lock plan new
handle_met lock plan old new is place number seen own rec within = record {
  started = is.started;
  place = place ∙ is.place;
  begins = prefix-trans lock.start old.seen new.seen is.begins seen;
  own = own ∙ made ∙ ap (λ n. made_by maker_of n new.seen) (sym number);
  places = subst (λ (r : Record). length plan.mounted ≤ places_of r) (sym rec) is.places;
  keeps =
      subst (λ (r : Record). IsRecord (store_at plan.mounted) (commits_of new.seen) new.number (front_in (record_of r)) (record_of r)) (sym rec)
      (numbered (store_at plan.mounted) (commits_of new.seen) old.number new.number (record_of old.rec) (sym number)
      (record-seen (store_at plan.mounted) (commits_of old.seen) (commits_of new.seen) old.number (record_of old.rec) (commits-prefix old.seen new.seen seen)
      (none-gained old.number old.seen new.seen seen (sym made ∙ is.own)) is.keeps));
  covers =
      subst (λ (r : Record). Cover (store_at plan.mounted) new.number (commits_of new.seen) (front_in (record_of r))) (sym rec)
      (subst (λ n. Cover (store_at plan.mounted) n (commits_of new.seen) (front_in (record_of old.rec))) (sym number)
      (cover-seen (store_at plan.mounted) old.number old.seen new.seen (front_in (record_of old.rec)) seen (sym made ∙ is.own) is.covers));
  procs = subst (λ (r : Record). AreProc (proc_of r)) (sym rec) is.procs;
}
  where
    -- all that it made is seen
    made : old.own ≡ made_by maker_of old.number new.seen
    made =
        prefix-both old.own (made_by maker_of old.number new.seen)
        (subst (λ (l : List Told). IsPrefix l (made_by maker_of old.number new.seen)) (sym is.own) (made-prefix maker_of old.number old.seen new.seen seen)) within

-- ---- a prepare

-- what a prepare makes for the store of some files; whose keys are in `proc` doesn't matter to it
module _ (formats : Formats) (files : List MountedFile) (n number : ℕ) (old rec : Record) (same_number : n ≡ number) (same : old ≡ rec) (parent : Name) (keys : KeyMap) where
  pub made_for : (result : Result Prepared PrepareFault)
      → IfOk result (λ set. (procs : ℕ → KeyMap) → IsMade formats (store_of files procs) n (record_of old) parent keys set)
      → IfOk result (λ set. IsMade formats (store_at files) number (record_of rec) parent keys set)
  made_for (Ok set) made =
      subst (λ (r : Record). IsMade formats (store_at files) number (record_of r) parent keys set) same
      (subst (λ (k : ℕ). IsMade formats (store_at files) k (record_of old) parent keys set) same_number (made (λ r. no_keys)))
  made_for (Err why) made = made

  pub refused_for : (result : Result Prepared PrepareFault)
      → IfErr result (λ why. UnlessMemory prepare_fault.Memory ((procs : ℕ → KeyMap) → IsSetRefused formats (store_of files procs) n (record_of old) parent keys why) why)
      → IfErr result (λ why. UnlessMemory prepare_fault.Memory (IsSetRefused formats (store_at files) number (record_of rec) parent keys why) why)
  refused_for (Ok set) refused = refused
  refused_for (Err why) refused = λ known.
      subst (λ (r : Record). IsSetRefused formats (store_at files) number (record_of r) parent keys why) same
      (subst (λ (k : ℕ). IsSetRefused formats (store_at files) k (record_of old) parent keys why) same_number (refused known (λ r. no_keys)))

-- ---- in terms of the seat that took the turn

module _ {F : Type 0} (lock : Place Told) (plan : Plan F) (old : HandleValue) (seat : Known Told) (rec : Record) (old_is : handle_with (Some seat) rec ≡ old) (is : IsHandle lock plan old) where
  abbrev pub taken : HandleValue
  taken = handle_with (Some seat) rec

  pub taken_is : IsHandle lock plan taken
  taken_is = subst (IsHandle lock plan) (sym old_is) is

  -- the handle behind its turn
  pub ended : (new : Record) (place : TableId) (number : ℕ) (found own told : List Told) (left : Known Told)
      → left ≡ knowledge place number (found ++ told) (own ++ told)
      → (place ≡ seat.place) × (number ≡ seat.number) × (own ≡ seat.own)
      → IsPrefix seat.seen found → made_by maker_of seat.number found ≡ seat.own → IsOneTurn maker_of seat.number told
      → places_of new ≡ places_of rec → proc_of new ≡ proc_of rec
      → IsRecord (store_at plan.mounted) (commits_of (found ++ told)) seat.number (front_in (record_of new)) (record_of new)
      → Cover (store_at plan.mounted) seat.number (commits_of (found ++ told)) (front_in (record_of new))
      → IsHandle lock plan (handle_with (Some left) new)
  ended new place number found own told left left_is same seen made one places procs kept covers =
      handle_moved lock plan taken (handle_with (Some left) new) found told taken_is (ap (λ (k : Known Told). k.place) left_is ∙ same.0) (ap (λ (k : Known Told). k.number) left_is ∙ same.1) seen made
      (ap (λ (k : Known Told). k.seen) left_is) (ap (λ (k : Known Told). k.own) left_is ∙ ap (λ (l : List Told). l ++ told) same.2) one places procs kept covers

  module _ {D P : Type 0} (formats : Formats) (g : Ghosts D) (code : Coded D) (refused : P → ℕ) (core : Core D P) (entries : ℕ) (found : List Told) (seen : IsPrefix seat.seen found) (shared : IsShared formats g code refused core entries found) where
    -- the clause of the core's get
    abbrev GotClause : Name → Record → Result Got GetFault → Type 0
    GotClause parent new result =
        (procs : ℕ → KeyMap) (records : ℕ → model.Record) (prepared : ℕ → Option sets.Prepared) → procs (handle_of rec) ≡ proc_of rec → records (handle_of rec) ≡ record_of rec
        → HasGot formats (store_of plan.mounted procs) plan.mounted core records prepared parent rec new result

    has_got : (parent : Name) (new : Record) (result : Result Got GetFault) → GotClause parent new result
        → (procs : ℕ → KeyMap) → procs (handle_of rec) ≡ proc_of rec
        → HasGot formats (store_of plan.mounted procs) plan.mounted core (put (handle_of rec) (record_of rec) (λ r. no_record)) (λ p. None) parent rec new result
    has_got parent new result clause procs own =
        clause procs (put (handle_of rec) (record_of rec) (λ r. no_record)) (λ p. None) own (put-here (handle_of rec) (record_of rec) (λ r. no_record))

    pub got_keeps : made_by maker_of seat.number found ≡ seat.own
        → (parent : Name) (new : Record) (result : Result Got GetFault) → GotClause parent new result
        → IsRecord (store_at plan.mounted) (commits_of found) seat.number (front_in (record_of new)) (record_of new)
    got_keeps made parent new result clause =
        get_keeps formats g code refused lock plan taken core entries found taken_is seen shared made (λ r. proc_of rec) parent new result (has_got parent new result clause (λ r. proc_of rec) refl)

    -- the commits of the seat that the turn found are those that its handle had seen
    pub covers_found : made_by maker_of seat.number found ≡ seat.own
        → Cover (store_at plan.mounted) seat.number (commits_of found) (front_in (record_of rec))
    covers_found made =
        cover-seen (store_at plan.mounted) seat.number seat.seen found (front_in (record_of rec)) seen (made ∙ taken_is.own) taken_is.covers

    -- a turn that looks at the commits alone leaves the record
    pub looked : (place : TableId) (number : ℕ) (own told : List Told) (left : Known Told)
        → left ≡ knowledge place number (found ++ told) (own ++ told)
        → (place ≡ seat.place) × (number ≡ seat.number) × (own ≡ seat.own)
        → made_by maker_of seat.number found ≡ seat.own → told ≡ [] → IsHandle lock plan (handle_with (Some left) rec)
    looked place number own told left left_is same made none =
        let all : found ≡ found ++ told = sym (append-nil found) ∙ ap (λ (l : List Told). found ++ l) (sym none) in
        ended rec place number found own told left left_is same seen made (inl none) refl refl
        (subst (λ (l : List Told). IsRecord (store_at plan.mounted) (commits_of l) seat.number (front_in (record_of rec)) (record_of rec)) all
        (keeps formats g code refused lock plan taken core entries found taken_is seen shared made))
        (subst (λ (l : List Told). Cover (store_at plan.mounted) seat.number (commits_of l) (front_in (record_of rec))) all (covers_found made))

    -- and what it looks at are the commits that the handle has then seen, which begin with those that it had seen
    pub looked_at : (now told : List Told) → now ≡ found ++ told → told ≡ [] → core.history.commits ≡ commits_of now
    looked_at now told now_is none =
        shared_history formats g code refused core entries found shared
        ∙ ap commits_of (sym (now_is ∙ ap (λ (l : List Told). found ++ l) none ∙ append-nil found))

    pub looked_behind : (front : ℕ) → front ≤ length (commits_of old.seen) → front ≤ length core.history.commits
    looked_behind front within =
        let before = subst (λ (o : HandleValue). front ≤ length (commits_of o.seen)) (sym old_is) within in
        let more = commits-prefix seat.seen found seen in
        let long : length (commits_of seat.seen) + length more.0 ≡ length (commits_of found) = sym (length-append (commits_of seat.seen) more.0) ∙ ap (λ (cs : List past.Commit). length cs) more.1 in
        omega (arith, before, long, ap (λ (cs : List past.Commit). length cs) (shared_history formats g code refused core entries found shared))

    pub got_covers : made_by maker_of seat.number found ≡ seat.own
        → (parent : Name) (new : Record) (result : Result Got GetFault) → GotClause parent new result
        → (told : List Told) → told ≡ []
        → Cover (store_at plan.mounted) seat.number (commits_of (found ++ told)) (front_in (record_of new))
    got_covers made parent new result clause told none =
        subst (λ (l : List Told). Cover (store_at plan.mounted) seat.number (commits_of l) (front_in (record_of new))) (sym (append-nil found) ∙ ap (λ (l : List Told). found ++ l) (sym none))
        (cover-got (store_of plan.mounted (λ r. proc_of rec)) plan.mounted (commits_of found) seat.number (handle_of rec) parent (record_of rec) (record_of new) result
        (get_found formats g code refused lock plan taken core entries found taken_is seen shared (λ r. proc_of rec) parent new result (has_got parent new result clause (λ r. proc_of rec) refl)) (covers_found made))

    pub got_so : handle_of rec ≡ seat.number → (parent : Name) (new : Record) (result : Result Got GetFault)
        → GotClause parent new result → (procs : ℕ → KeyMap) → procs old.number ≡ proc_of old.rec → (now : List Told)
        → now ≡ found
        → IsGotAt (store_of plan.mounted procs) plan.mounted (commits_of now) old.number parent (record_of old.rec) (record_of new) result
    got_so number parent new result clause procs own now now_is =
        let mine : procs (handle_of rec) ≡ proc_of rec = ap procs number ∙ subst (λ (o : HandleValue). procs o.number ≡ proc_of o.rec) (sym old_is) own in
        let there = get_found formats g code refused lock plan taken core entries found taken_is seen shared procs parent new result (has_got parent new result clause procs mine) in
        let by_number = subst (λ n. IsGotAt (store_of plan.mounted procs) plan.mounted (commits_of found) n parent (record_of rec) (record_of new) result) number there in
        let by_seen = subst (λ (l : List Told). IsGotAt (store_of plan.mounted procs) plan.mounted (commits_of l) seat.number parent (record_of rec) (record_of new) result) (sym now_is) by_number in
        subst (λ (o : HandleValue). IsGotAt (store_of plan.mounted procs) plan.mounted (commits_of now) o.number parent (record_of o.rec) (record_of new) result) old_is by_seen

    -- ---- a commit

    module _ (number : handle_of rec ≡ seat.number) (set : Prepared) (prepared : IsPrepared formats plan.mounted old.number (record_of old.rec) set) where
      own_set : IsPrepared formats plan.mounted (handle_of rec) (record_of rec) set
      own_set =
          subst (λ n. IsPrepared formats plan.mounted n (record_of rec) set) (sym number)
          (subst (λ (o : HandleValue). IsPrepared formats plan.mounted o.number (record_of o.rec) set) (sym old_is) prepared)

      pub may : made_by maker_of seat.number found ≡ seat.own
          → MayCommit formats g code refused plan.mounted core entries found rec set
      may made =
          may_commit formats g code refused lock plan taken core entries found taken_is seen shared number made set own_set

      -- the set is the seat's own
      pub set_turn : (result : Result Done CommitFault) (told : List Told) → told ≡ told_by (prepared_of set) result
          → IsOneTurn maker_of seat.number told
      set_turn result told told_is =
          subst (IsOneTurn maker_of seat.number) (sym told_is) (one_turn seat.number (prepared_of set) result (ap (λ (s : sets.Prepared). s.handle) own_set.made.is ∙ number))

      pub done_covers : (new : Record) (result : Result Done CommitFault) (told : List Told)
          → made_by maker_of seat.number found ≡ seat.own → told ≡ told_by (prepared_of set) result
          → record_of new
          ≡ record_by (store_at plan.mounted) core.history.commits (prepared_of set) result (record_of rec)
          → Cover (store_at plan.mounted) seat.number (commits_of (found ++ told)) (front_in (record_of new))
      done_covers new result told made told_is kept =
          subst (λ (r : model.Record). Cover (store_at plan.mounted) seat.number (commits_of (found ++ told)) (front_in r))
          (sym (kept ∙ ap (λ (cs : List past.Commit). record_by (store_at plan.mounted) cs (prepared_of set) result (record_of rec)) (shared_history formats g code refused core entries found shared)))
          (subst (λ (cs : List past.Commit). Cover (store_at plan.mounted) seat.number cs (front_in (record_by (store_at plan.mounted) (commits_of found) (prepared_of set) result (record_of rec))))
          (sym (commits-append found told ∙ ap (λ (l : List Told). commits_of found ++ commits_of l) told_is))
          (cover-judged (store_at plan.mounted) (commits_of found) seat.number (prepared_of set) (record_of rec) result (covers_found made)))

      pub done_so : (new : HandleValue) (result : Result Done CommitFault) (told : List Told)
          → made_by maker_of seat.number found ≡ seat.own → told ≡ told_by (prepared_of set) result
          → new.seen ≡ found ++ told → new.own ≡ seat.own ++ told
          → ((risen : Bool) × IsJudged formats (store_at plan.mounted) risen core.history.commits core.keys (prepared_of set) result)
          → record_of new.rec
          ≡ record_by (store_at plan.mounted) core.history.commits (prepared_of set) result (record_of rec)
          → IsDone formats plan.mounted old new set result
      done_so new result told own told_is sees gains judged kept =
          subst (λ (o : HandleValue). IsDone formats plan.mounted o new set result) old_is
          (is_done formats g code refused lock plan taken core entries found taken_is seen shared new set result told own told_is sees gains judged kept)

-- a handle that took its seat back
pub seated : {D P : Type 0} (formats : Formats) (g : Ghosts D) (code : Coded D) (refused : P → ℕ) (core : Core D P)
    (entries commits : ℕ) (log : List Told) (left : Known Told) (rec : Record)
    → IsShared formats g code refused core entries log → left.seen ≡ log → handle_of rec ≡ left.number
    → commits ≡ length core.history.commits → IsSeated (Some left) rec commits
seated formats g code refused core entries commits log left rec shared seen number counted = record {
  there = refl;
  number = number;
  commits_are = counted ∙ ap (λ (cs : List past.Commit). length cs) (shared_history formats g code refused core entries log shared ∙ sym (ap commits_of seen));
}
