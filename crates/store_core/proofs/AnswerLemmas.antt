-- What each answer to a commit of a prepared set leaves, as the definitions have it.
use Rattle.std.proofs.Common.{◌≡◌, ℕ, ◌+◌, ◌<◌, ◌≤◌, Bool, true, false, cond, nat_eq, All, List, [], ◌∷◌, ◌++◌, length, Option, Some, None, Result, Ok, Err, refl, sym, ap, subst, ◌∙◌, eqb-true, arith}
use Rattle.std.specs.List.{AllByRecursion}
use Rattle.std.proofs.lemmas.List.Elements.{All-from_recursion}
use Rattle.std.proofs.lemmas.List.Sums.{count_by-le-length, length-filter}
use Rattle.kdb_outside.specs.declared.disks.Disk.{Ghosts}
use Rattle.commit_log.specs.Log.{Log}
use Rattle.intent_journal.specs.Journal.{JournalValue}
use Rattle.journal_codec.specs.declared.files.FileText.{FileText}
use Rattle.model_crashes.specs.Runs.{Run, after_begun, after_commit}
use Rattle.model_files.specs.Files.{table_files}
use Rattle.model_files.specs.Texts.{as_entry, entry_of, texts_at}
use Rattle.model_history.specs.Changes.{after}
use Rattle.model_history.specs.History as past
use Rattle.model_history.specs.History.{history_weight, heaviest_history}
use Rattle.model_maps.specs.KeyMap.{KeyMap}
use Rattle.model_store.specs.Cores as cores
use Rattle.model_store.specs.Cores.{JudgementMade, accepts, core_after, storing}
use Rattle.model_store.specs.Events as event
use Rattle.model_store.specs.Events.{Answer, put}
use Rattle.model_store.specs.Records as model
use Rattle.model_store.specs.Sets as sets
use Rattle.model_store.specs.Sets.{wants}
use Rattle.model_store.specs.Store.{Store, Formats, points_of}
use Rattle.model_store.specs.Verdicts as verdict
use Rattle.model_store.specs.Verdicts.{Late, IsLate, commit_of}
use Rattle.model_store.specs.Worlds.{World}
use Rattle.model_store.proofs.VerdictLemmas.{conflict_touched, large_touched}
use Rattle.set_split.specs.Seen.{numbered}
use Rattle.set_split.specs.declared.parts.Part.{Part}
use Rattle.store_core.specs.Answers.{IsAnswer, IsJudged, has_written}
use Rattle.store_core.specs.Committing.{BeginsSet, BeginsOnly, RunsOn}
use Rattle.store_core.specs.Cores.{core_with}
use Rattle.store_core.specs.Entering.{HasEntered, HoldsRun, IsEntered}
use Rattle.store_core.specs.Frames.{IsUnwritten}
use Rattle.store_core.specs.Joined.{BelongsIn, HasAnswered, HasMade}
use Rattle.store_core.specs.declared.committing.CommitFault.{CommitFault}
use Rattle.store_core.specs.declared.committing.CommitFault.TheVariants as fault
use Rattle.store_core.specs.declared.committing.Done.{Done}
use Rattle.store_core.specs.declared.committing.Done.TheVariants as done
use Rattle.store_core.specs.declared.cores.Core.{Core}
use Rattle.store_core.specs.Renewed.{with_texts}
use Rattle.store_core.proofs.EnteringLemmas.{judgement, light, entry, entry_is, commit_is_set, remade, within}
use Rattle.store_phases.specs.Phases.{IsOfRun}
use Rattle.store_phases.specs.Stores.{IsStore}
use Rattle.store_verdict.specs.PreparedView.{prepared_of}
use Rattle.store_verdict.specs.RecordView.{handle_of, places_of, record_of}
use Rattle.store_verdict.specs.Renewing.{AreRenewed, MayRenew}
use Rattle.store_verdict.specs.declared.prepared.Prepared.{Prepared}
use Rattle.store_verdict.specs.declared.records.Record.{Record}
use Rattle.store_verdict.proofs.SetLemmas.{among-within, parts-within}

-- telling of a number what was told changes nothing
pub put-same : (r : ℕ) (x : model.Record) (records : ℕ → model.Record) → records r ≡ x → (n : ℕ)
    → put r x records n ≡ records n
put-same r x records is n = elim (nat_eq n r) as (λ b. nat_eq n r ≡ b → cond b x (records n) ≡ records n) [
  | true ↦ λ e. sym is ∙ sym (ap records (eqb-true n r e))
  | false ↦ λ e. refl
] refl

-- where the matcher alone moves, and the history at most in how it is asked, nothing else does
pub matched : {D P : Type 0} (core : Core D P) (patterns : P) (history : Log) → history ≡ core.history
    → IsUnwritten core (record core { patterns = patterns; history = history })
matched core patterns history same =
    record { journal = refl; history = ap (λ (log : Log). log.commits) same; start = refl; keys = refl; wrote = refl }

module _ (formats : Formats) {D P : Type 0} (store : Store) (core : Core D P) (records : ℕ → model.Record) (made : ℕ → Option sets.Prepared) (world : World) (p : ℕ) (rec : Record) (prepared : Prepared)
    (b : BelongsIn formats store core records made world p rec prepared) where
  abbrev r : ℕ
  r = handle_of rec

  abbrev set : sets.Prepared
  set = prepared_of prepared

  abbrev found : ℕ
  found = length core.history.commits

  abbrev old : cores.Core
  old = core_with core records made

  taken : accepts (records r) r set ≡ true
  taken = subst (λ (x : model.Record). accepts x r set ≡ true) (sym b.record_is) b.accepted

  all_within : AllByRecursion (λ m. m < length store.mounts) set.touched
  all_within = within formats store core records made world b.stands r p set b.set_is taken

  pub conflict_within : (m by : ℕ) → IsLate formats store core.history.commits core.keys set (verdict.Conflict m by)
      → m < length store.mounts
  conflict_within m by late =
      among-within (length store.mounts) prepared.touched m all_within (conflict_touched m by formats store core.history.commits core.keys set late)

  pub large_within : (m bytes : ℕ) → IsLate formats store core.history.commits core.keys set (verdict.TooLarge m bytes)
      → m < length store.mounts
  large_within m bytes late =
      among-within (length store.mounts) prepared.touched m all_within (large_touched m bytes formats store core.history.commits core.keys set late)

  pub parts_within : All (λ (part : Part). part.mount < places_of rec) prepared.wanted
  parts_within =
      All-from_recursion (λ (part : Part). part.mount < places_of rec) prepared.wanted
      (parts-within (places_of rec) (wants (points_of store) prepared.keys) prepared.wanted prepared.touched b.wanted (all-below prepared.touched all_within))
    where
      all-below : (ms : List ℕ) → AllByRecursion (λ m. m < length store.mounts) ms
          → AllByRecursion (λ m. m < places_of rec) ms
      all-below [] all = tt
      all-below (m ∷ ms) all = (omega (arith, all.0, b.places), all-below ms all.1)

  -- where nothing blocks the set, the judging may make its texts anew
  pub may_renew : verdict.conflict store core.history.commits set ≡ None
      → MayRenew formats store (after core.keys set.changes) set.touched
  may_renew free =
      let can = remade formats store core records made world b.stands r p set b.set_is taken free in
      record { storable = can.storable; short = can.short; light = can.light }

  -- the handle made no more commits than there are
  pub own_count : (record_of rec).committed ≤ found
  own_count =
      let counted : (record_of rec).committed ≡ length (past.commits_by r world.history) = sym (ap (λ (x : model.Record). x.committed) b.record_is) ∙ (b.stands.stands.records r).count in
      omega (arith, counted, length-filter (past.is_by r) world.history, count_by-le-length (past.is_by r) world.history, ap length b.stands.stands.history)

  abbrev judged : (late : Late) → IsLate formats store core.history.commits core.keys set late → JudgementMade formats store old r p found late
  judged late is = judgement formats store core records made world b.stands r p set b.set_is taken late is

  -- where what is kept is as it was, so is what the definitions have
  kept : (after : Core D P) (new : Record) → after.history.commits ≡ core.history.commits → after.keys ≡ core.keys
      → record_of new ≡ record_of rec → core_with after (put r (record_of new) records) made ≡ old
  kept after new history keys fetched =
      let each : (n : ℕ) → put r (record_of new) records n ≡ records n = put-same r (record_of new) records (b.record_is ∙ sym fetched) in
      λ i. record { history = history i; keys = keys i; records = λ n. each n i; sets = made }

  -- ---- where the set is no commit

  module _ (after : Core D P) (still : IsUnwritten core after) (risen : Bool) where
    told : (result : Result Done CommitFault) (late : Late)
        → IsLate formats store core.history.commits core.keys set late → core_after store old r set late ≡ old
        → IsAnswer store.mounts risen found set result (event.Judged found late)
        → HasMade formats store core after records made p rec rec prepared risen result
    told result late is nothing answer = record {
      answer = event.Judged found late;
      is_answer = answer;
      is_made = record { judged = judged late is; next_is = kept after rec still.history still.keys refl ∙ sym nothing };
    }

    pub made_unwritten : (result : Result Done CommitFault) → has_written result ≡ false
        → IsJudged formats store risen core.history.commits core.keys set result
        → HasMade formats store core after records made p rec rec prepared risen result
    made_unwritten (Ok (done.Committed number aside)) unwritten is = absurd cc
    made_unwritten (Ok (done.Same front aside)) unwritten is =
        told (Ok (done.Same front aside)) (verdict.Same aside) is.1 refl (ap (λ f. event.Judged f (verdict.Same aside)) (sym is.0))
    made_unwritten (Err (fault.Conflict mount by front)) unwritten is =
        told (Err (fault.Conflict mount by front)) (verdict.Conflict is.0 by) is.3 refl (is.0, is.1, ap (λ f. event.Judged f (verdict.Conflict is.0 by)) (sym is.2))
    made_unwritten (Err (fault.FileTooLarge mount bytes front)) unwritten is =
        told (Err (fault.FileTooLarge mount bytes front)) (verdict.TooLarge is.0 bytes) is.3 refl (is.0, is.1, ap (λ f. event.Judged f (verdict.TooLarge is.0 bytes)) (sym is.2))
    made_unwritten (Err (fault.Invalid violation front)) unwritten is =
        told (Err (fault.Invalid violation front)) (verdict.Invalid violation risen) is.1 refl (ap (λ f. event.Judged f (verdict.Invalid violation risen)) (sym is.0))
    made_unwritten (Err (fault.DatabaseFull weight front)) unwritten is =
        told (Err (fault.DatabaseFull weight front)) (verdict.DatabaseFull weight) is.1 refl (ap (λ f. event.Judged f (verdict.DatabaseFull weight)) (sym is.0))
    made_unwritten (Err (fault.HistoryFull weight front)) unwritten is =
        told (Err (fault.HistoryFull weight front)) (verdict.HistoryFull weight) is.1 refl (ap (λ f. event.Judged f (verdict.HistoryFull weight)) (sym is.0))
    made_unwritten (Err (fault.DiskFault front)) unwritten is = absurd cc
    made_unwritten (Err fault.Memory) unwritten is =
        record { answer = event.Memory; is_answer = refl; is_made = kept after rec still.history still.keys refl }

  -- ---- where it is one: its texts are those of the prepare, or made anew where a touched mount counts by key

  module _ (commit : past.Commit) (aside : ℕ) (is : IsLate formats store core.history.commits core.keys set (verdict.Commits commit aside)) where
    pub not_full : history_weight (core.history.commits ++ commit ∷ []) ≤ heaviest_history
    not_full = light formats store core records made world b.stands r p set b.set_is taken commit aside is

    commit_is : commit ≡ commit_of set
    commit_is = commit_is_set formats store core records made world b.stands r p set b.set_is taken commit aside is

    -- the texts of the commit are an entry that the journal can hold
    pub commit_entry : IsOfRun (table_files store) (entry_of formats store core.keys (commit_of set))
    commit_entry = entry formats store core records made world b.stands r p set b.set_is taken commit aside is

    module _ (keys : KeyMap) (keys_are : keys ≡ after core.keys set.changes) (renewed : Option (List FileText)) (brings : AreRenewed formats store keys set.touched renewed) where
      abbrev filed : Prepared
      filed = with_texts prepared renewed

      pub texts_are : filed.texts ≡ entry_of formats store core.keys (commit_of set)
      texts_are = by renewed brings
        where
          by : (o : Option (List FileText)) → AreRenewed formats store keys set.touched o
              → (with_texts prepared o).texts ≡ entry_of formats store core.keys (commit_of set)
          by None none =
              b.texts
              ∙ entry_is formats store core records made world b.stands r p set b.set_is taken commit aside is none
          by (Some texts) anew =
              anew b.stands.files.own ∙ ap (λ (k : KeyMap). as_entry (texts_at formats store k set.touched)) keys_are

      pub is_entry : IsOfRun (table_files store) filed.texts
      is_entry = subst (IsOfRun (table_files store)) (sym texts_are) commit_entry

      wanted_same : filed.wanted ≡ prepared.wanted
      wanted_same = by renewed
        where
          by : (o : Option (List FileText)) → (with_texts prepared o).wanted ≡ prepared.wanted
          by None = refl
          by (Some texts) = refl

      pub places_within : All (λ (part : Part). part.mount < places_of rec) filed.wanted
      places_within = subst (All (λ (part : Part). part.mount < places_of rec)) (sym wanted_same) parts_within

      module _ (g : Ghosts D) (patterns : P) (next : Core D P) (new : Record) (risen : Bool) where
        entered : HasEntered g store.mounts commit keys filed (record core { patterns = patterns }) next rec new
            → HasMade formats store core next records made p rec new prepared risen (Ok (done.Committed (found + 1) aside))
        entered has =
            let moved : record_of new ≡ storing store set.touched (found + 1) (wants (points_of store) set.keys) (records r) =
            has.kept store prepared.touched (wants (points_of store) prepared.keys) refl (ap numbered wanted_same ∙ b.wanted) ∙ ap (storing store set.touched (found + 1) (wants (points_of store) set.keys)) (sym b.record_is) in
            let all : next.keys ≡ after core.keys set.changes = has.keys_are ∙ keys_are in
            record {
              answer = event.Judged found (verdict.Commits commit aside);
              is_answer = (refl, ap (λ (c : past.Commit). event.Judged found (verdict.Commits c aside)) commit_is);
              is_made = record { judged = judged (verdict.Commits commit aside) is; next_is = λ i. record { history = has.history i; keys = all i; records = put r (moved i) records; sets = made } };
            }

        pub made_entered : (result : Result Done CommitFault)
            → IsEntered g store.mounts commit aside keys filed (record core { patterns = patterns }) next rec new result
            → HasMade formats store core next records made p rec new prepared risen result
        made_entered (Ok m) has =
            subst (λ (d : Done). HasMade formats store core next records made p rec new prepared risen (Ok d)) (sym has.0) (entered has.1)
        made_entered (Err fault.Memory) has =
            record { answer = event.Memory; is_answer = refl; is_made = kept next new has.1.history has.1.keys has.0 }
        made_entered (Err (fault.DiskFault front)) has = record {
          answer = event.Failed found;
          is_answer = ap event.Failed (sym has.0);
          is_made = record { commit = commit; aside = aside; judged = judged (verdict.Commits commit aside) is; next_is = kept next new has.1.history has.1.keys_are has.1.kept };
        }
        made_entered (Err (fault.Conflict mount by front)) has = absurd has
        made_entered (Err (fault.FileTooLarge mount bytes front)) has = absurd has
        made_entered (Err (fault.Invalid violation front)) has = absurd has
        made_entered (Err (fault.DatabaseFull weight front)) has = absurd has
        made_entered (Err (fault.HistoryFull weight front)) has = absurd has

  -- ---- and on the disk

  module _ (g : Ghosts D) (opened : D) (run : Run) (on_disk : IsStore g opened core.journal run) (next : Core D P) (start : next.start ≡ core.start) (new : Record) (risen : Bool) where
    on_run : (result : Result Done CommitFault) (later : Run)
        → HasMade formats store core next records made p rec new prepared risen result
        → ((answer : Answer) → IsAnswer store.mounts risen found set result answer → RunsOn formats store core.keys run (made p) answer later)
        → IsStore g opened next.journal later
        → HasAnswered formats g store opened core next records made run p rec new prepared risen result
    on_run result later has goes stored = record {
      later = later;
      answer = has.answer;
      is_answer = has.is_answer;
      committed = record { made = has.is_made; start = start; runs_on = goes has.answer has.is_answer; on_disk = stored };
    }

    -- an answer told of nothing written leaves the run
    runs_still : (result : Result Done CommitFault) → has_written result ≡ false → (answer : Answer)
        → IsAnswer store.mounts risen found set result answer → RunsOn formats store core.keys run (made p) answer run
    runs_still (Ok (done.Committed number aside)) unwritten answer is = absurd cc
    runs_still (Ok (done.Same front aside)) unwritten answer is =
        subst (λ (a : Answer). RunsOn formats store core.keys run (made p) a run) (sym is) refl
    runs_still (Err (fault.Conflict mount by front)) unwritten answer is =
        subst (λ (a : Answer). RunsOn formats store core.keys run (made p) a run) (sym is.2) refl
    runs_still (Err (fault.FileTooLarge mount bytes front)) unwritten answer is =
        subst (λ (a : Answer). RunsOn formats store core.keys run (made p) a run) (sym is.2) refl
    runs_still (Err (fault.Invalid violation front)) unwritten answer is =
        subst (λ (a : Answer). RunsOn formats store core.keys run (made p) a run) (sym is) refl
    runs_still (Err (fault.DatabaseFull weight front)) unwritten answer is =
        subst (λ (a : Answer). RunsOn formats store core.keys run (made p) a run) (sym is) refl
    runs_still (Err (fault.HistoryFull weight front)) unwritten answer is =
        subst (λ (a : Answer). RunsOn formats store core.keys run (made p) a run) (sym is) refl
    runs_still (Err (fault.DiskFault front)) unwritten answer is = absurd cc
    runs_still (Err fault.Memory) unwritten answer is =
        subst (λ (a : Answer). RunsOn formats store core.keys run (made p) a run) (sym is) refl

    pub answered_unwritten : IsUnwritten core next → (result : Result Done CommitFault) → has_written result ≡ false
        → HasMade formats store core next records made p rec new prepared risen result
        → HasAnswered formats g store opened core next records made run p rec new prepared risen result
    answered_unwritten still result unwritten has =
        on_run result run has (runs_still result unwritten) (subst (λ (j : JournalValue D). IsStore g opened j run) (sym still.journal) on_disk)

    module _ (commit : past.Commit) (aside : ℕ) (late_is : IsLate formats store core.history.commits core.keys set (verdict.Commits commit aside)) (keys : KeyMap) (keys_are : keys ≡ after core.keys set.changes)
        (renewed : Option (List FileText)) (brings : AreRenewed formats store keys set.touched renewed) (patterns : P) (names : run.names ≡ table_files store) where
      abbrev stored : Prepared
      stored = with_texts prepared renewed

      texts : stored.texts ≡ entry_of formats store core.keys (commit_of set)
      texts = texts_are commit aside late_is keys keys_are renewed brings

      holds : HoldsRun g store.mounts opened core.journal run
      holds = record { names = names; store = on_disk }

      pub answered_entered : (result : Result Done CommitFault)
          → IsEntered g store.mounts commit aside keys stored (record core { patterns = patterns }) next rec new result
          → HasMade formats store core next records made p rec new prepared risen result
          → HasAnswered formats g store opened core next records made run p rec new prepared risen result
      answered_entered (Ok m) is has =
          subst (λ (d : Done). HasMade formats store core next records made p rec new prepared risen (Ok d) → HasAnswered formats g store opened core next records made run p rec new prepared risen (Ok d)) (sym is.0)
          (λ made_of. on_run (Ok (done.Committed (found + 1) aside)) (after_commit run stored.texts) made_of
          (λ answer told. subst (λ (a : Answer). RunsOn formats store core.keys run (made p) a (after_commit run stored.texts)) (sym told.1) (ap (after_commit run) texts))
          (is.1.stored opened run holds)) has
      answered_entered (Err fault.Memory) is has =
          answered_unwritten (record { journal = is.1.journal; history = is.1.history; start = is.1.start; keys = is.1.keys; wrote = is.1.wrote }) (Err fault.Memory) refl has
      answered_entered (Err (fault.DiskFault front)) is has =
          let begun = is.1.begun opened run holds in
          let later : Run = after_begun run stored.texts begun.0 in
          on_run (Err (fault.DiskFault front)) later has
          (λ answer told. subst (λ (a : Answer). RunsOn formats store core.keys run (made p) a later) (sym told)
          (subst (λ (o : Option sets.Prepared). BeginsSet formats store core.keys run o later) (sym b.set_is)
          (subst (λ (es : List FileText). BeginsOnly run es later) texts (begun.0, begun.1, refl))))
          begun.2
      answered_entered (Err (fault.Conflict mount by front)) is has = absurd is
      answered_entered (Err (fault.FileTooLarge mount bytes front)) is has = absurd is
      answered_entered (Err (fault.Invalid violation front)) is has = absurd is
      answered_entered (Err (fault.DatabaseFull weight front)) is has = absurd is
      answered_entered (Err (fault.HistoryFull weight front)) is has = absurd is
