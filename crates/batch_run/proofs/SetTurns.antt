-- A set: what the handle's turn found is what the step means, whatever the working set is.
use Rattle.std.proofs.Common.{◌≡◌, ◌≢◌, ◌⊎◌, inl, inr, ℕ, ◌+◌, ◌≤◌, Bool, true, false, cond, List, [], ◌∷◌, ◌++◌, length, Some, None, Result, Ok, Err, refl, sym, ap, ap₂, subst, ◌∙◌, append-nil, length-append, arith}
use mathlib.Core.List.{IsPrefix}
use Rattle.batch_script.specs.declared.steps.Step.TheVariants.{Set}
use Rattle.kdb_handle.specs.Handles.{HandleValue}
use Rattle.kdb_handle.specs.Opened.{store_at}
use Rattle.kdb_handle.specs.Sets.{IsSet, IsStored, tells_refusal}
use Rattle.kdb_handle.specs.Story.{Told, Refused, maker_of, commits_of, failures_in, refusals_in}
use Rattle.kdb_handle.specs.Stores.{IsHandle}
use Rattle.kdb_handle.specs.Turns.{is_refusal, record_by, told_by}
use Rattle.kdb_handle.specs.declared.replies.Reply.{Reply}
use Rattle.kdb_handle.specs.declared.replies.Reply.TheVariants as reply
use Rattle.kdb_handle.specs.declared.setting.SetFault.{SetFault}
use Rattle.kdb_handle.specs.declared.setting.SetFault.TheVariants as set_fault
use Rattle.kdb_handle.proofs.StoryLemmas.{commits-append, failures-append, refusals-append}
use Rattle.model_batch.specs.Replies.{failures_told, numbers_told, refusals_told, set_reply, stored_reply}
use Rattle.model_batch.specs.Sessions.{Session}
use Rattle.model_batch.specs.Sets.{MeansSet, StandsNext, record_then, set_by, told_then, IsJudgedThen}
use Rattle.model_batch.specs.Told.{numbers_by, numbers_from}
use Rattle.model_history.specs.History.{Commit, replay}
use Rattle.model_maps.specs.KeyMap.{KeyMap}
use Rattle.model_names.specs.Name.{Name}
use Rattle.model_store.specs.Cores.{storing}
use Rattle.model_store.specs.Records.{Record}
use Rattle.model_store.specs.Sets as sets
use Rattle.model_store.specs.Sets.{wants}
use Rattle.model_store.specs.Store.{Store, Formats, points_of}
use Rattle.model_store.specs.Verdicts.{IsEarly, commit_of}
use Rattle.seat_lock.specs.Known.{Place}
use Rattle.seat_lock.specs.Story.{made_by}
use Rattle.seat_lock.proofs.Prefixes.{prefix-trans}
use Rattle.batch_run.specs.Stepping.{GoesOn, Held, IsReady, held, session_of}
use Rattle.batch_run.specs.declared.workspaces.Workspace.{Workspace}
use Rattle.batch_run.proofs.EditLemmas.{stays, IsSilent}
use Rattle.batch_run.proofs.Joining.{goes-keys}
use Rattle.batch_run.proofs.CommitNumbers.{longer-commits, numbers-one, numbers-same, numbers_from-append, IsSince, numbers-since, since-self}
use Rattle.store_core.specs.Answers.{IsJudged}
use Rattle.store_core.specs.declared.committing.CommitFault.{CommitFault}
use Rattle.store_core.specs.declared.committing.CommitFault.TheVariants.{Conflict, FileTooLarge, Invalid, DatabaseFull, HistoryFull, DiskFault, Memory}
use Rattle.store_core.specs.declared.committing.Done.{Done}
use Rattle.store_core.specs.declared.committing.Done.TheVariants as done
use Rattle.store_core.specs.declared.cores.Plan.{Plan}
use Rattle.store_verdict.specs.PreparedView.{prepared_of}
use Rattle.store_verdict.specs.RecordView.{proc_of, record_of}
use Rattle.store_verdict.specs.declared.faults.PrepareFault.{PrepareFault}
use Rattle.store_verdict.specs.declared.faults.PrepareFault.TheVariants as early_fault
use Rattle.general_words.specs.Memory.{UnlessMemory}
use Rattle.mounted_files.specs.declared.files.MountedFile.{MountedFile}
use Rattle.batch_run.proofs.GetTurns.{session_with}
use Rattle.store_verdict.specs.Preparing.{IsRefused}

-- whether there was no memory for an answer
memory-or : (result : Result Done CommitFault) → (result ≡ Err Memory) ⊎ (result ≢ Err Memory)
memory-or (Ok d) = inr (λ e. absurd cc)
memory-or (Err Memory) = inl refl
memory-or (Err (Conflict mount by front)) = inr (λ e. absurd cc)
memory-or (Err (FileTooLarge mount bytes front)) = inr (λ e. absurd cc)
memory-or (Err (Invalid violation front)) = inr (λ e. absurd cc)
memory-or (Err (DatabaseFull weight front)) = inr (λ e. absurd cc)
memory-or (Err (HistoryFull weight front)) = inr (λ e. absurd cc)
memory-or (Err (DiskFault front)) = inr (λ e. absurd cc)

-- what an answer adds to the story is what its reply tells
pub told-failures : (set : sets.Prepared) (result : Result Done CommitFault)
    → failures_in (told_by set result) ≡ failures_told (set_reply result)
told-failures set (Ok (done.Committed number aside)) = refl
told-failures set (Ok (done.Same front aside)) = refl
told-failures set (Err Memory) = refl
told-failures set (Err (Conflict mount by front)) = refl
told-failures set (Err (FileTooLarge mount bytes front)) = refl
told-failures set (Err (Invalid violation front)) =
    elim (is_refusal violation) as (λ (b : Bool). failures_in (cond b (Refused set.handle ∷ []) []) ≡ 0) [ true ↦ refl | false ↦ refl ]
told-failures set (Err (DatabaseFull weight front)) = refl
told-failures set (Err (HistoryFull weight front)) = refl
told-failures set (Err (DiskFault front)) = refl

pub told-refusals : (set : sets.Prepared) (result : Result Done CommitFault)
    → refusals_in (told_by set result) ≡ refusals_told (set_reply result)
told-refusals set (Ok (done.Committed number aside)) = refl
told-refusals set (Ok (done.Same front aside)) = refl
told-refusals set (Err Memory) = refl
told-refusals set (Err (Conflict mount by front)) = refl
told-refusals set (Err (FileTooLarge mount bytes front)) = refl
told-refusals set (Err (Invalid violation front)) =
    elim (is_refusal violation) as (λ (b : Bool). refusals_in (cond b (Refused set.handle ∷ []) []) ≡ cond b 1 0) [ true ↦ refl | false ↦ refl ]
told-refusals set (Err (DatabaseFull weight front)) = refl
told-refusals set (Err (HistoryFull weight front)) = refl
told-refusals set (Err (DiskFault front)) = refl

-- but for a commit the history stays
told-commits : (set : sets.Prepared) (violation : Bool) → commits_of (cond violation (Refused set.handle ∷ []) []) ≡ []
told-commits set true = refl
told-commits set false = refl

-- the history after an answer begins with what was found, and with the commit
pub stands : (found later : List Commit) (set : sets.Prepared) (result : Result Done CommitFault)
    → later ≡ found ++ commits_of (told_by set result) → StandsNext later found set result
stands found later set (Ok (done.Committed number aside)) is = ([], append-nil (found ++ commit_of set ∷ []) ∙ sym is)
stands found later set (Ok (done.Same front aside)) is = ([], sym is)
stands found later set (Err why) is = (commits_of (told_by set (Err why)), sym is)

-- and has as many commits as were told of
told-within : (formats : Formats) (store : Store) (risen : Bool) (found later : List Commit) (keys : KeyMap)
    (set : sets.Prepared) (result : Result Done CommitFault) (told : ℕ) → told ≤ length found
    → later ≡ found ++ commits_of (told_by set result) → IsJudged formats store risen found keys set result
    → told_then result told ≤ length later
told-within formats store risen found later keys set (Ok (done.Committed number aside)) told le is judged =
    omega (arith, judged.0, ap length is, length-append found (commit_of set ∷ []))
told-within formats store risen found later keys set (Ok (done.Same front aside)) told le is judged =
    omega (arith, judged.0, ap length is, length-append found [])
told-within formats store risen found later keys set (Err Memory) told le is judged =
    omega (arith, le, ap length is, length-append found [])
told-within formats store risen found later keys set (Err (Conflict mount by front)) told le is judged =
    omega (arith, judged.2, ap length is, length-append found [])
told-within formats store risen found later keys set (Err (FileTooLarge mount bytes front)) told le is judged =
    omega (arith, judged.2, ap length is, length-append found [])
told-within formats store risen found later keys set (Err (Invalid violation front)) told le is judged =
    omega (arith, judged.0, ap length is, length-append found (commits_of (told_by set (Err (Invalid violation front)))))
told-within formats store risen found later keys set (Err (DatabaseFull weight front)) told le is judged =
    omega (arith, judged.0, ap length is, length-append found [])
told-within formats store risen found later keys set (Err (HistoryFull weight front)) told le is judged =
    omega (arith, judged.0, ap length is, length-append found [])
told-within formats store risen found later keys set (Err (DiskFault front)) told le is judged =
    omega (arith, judged.1, ap length is, length-append found [])

-- the record that it leaves is that of the definitions
records-then : (store : Store) (found : List Commit) (set other : sets.Prepared) (result : Result Done CommitFault)
    (rec new : Record) → set ≡ other → new ≡ record_by store found set result rec
    → new ≡ record_then store found other result rec
records-then store found set other (Ok (done.Committed number aside)) rec new same kept =
    kept
    ∙ ap (λ (s : sets.Prepared). storing store s.touched (length found + 1) (wants (points_of store) s.keys) rec) same
records-then store found set other (Ok (done.Same front aside)) rec new same kept = kept
records-then store found set other (Err why) rec new same kept = kept

-- the commits of its handle are those that it told
pub new-numbers : (formats : Formats) (store : Store) (risen : Bool) (number : ℕ) (found : List Commit) (keys : KeyMap)
    (set : sets.Prepared) (result : Result Done CommitFault) → set.handle ≡ number
    → IsJudged formats store risen found keys set result
    → numbers_from number (1 + length found) (commits_of (told_by set result)) ≡ numbers_told (set_reply result)
new-numbers formats store risen number found keys set (Ok (done.Committed n aside)) own judged =
    numbers-one number (1 + length found) (commit_of set) own ∙ ap (λ (k : ℕ). k ∷ []) (omega (arith, judged.0))
new-numbers formats store risen number found keys set (Ok (done.Same front aside)) own judged = refl
new-numbers formats store risen number found keys set (Err Memory) own judged = refl
new-numbers formats store risen number found keys set (Err (Conflict mount by front)) own judged = refl
new-numbers formats store risen number found keys set (Err (FileTooLarge mount bytes front)) own judged = refl
new-numbers formats store risen number found keys set (Err (Invalid violation front)) own judged =
    ap (numbers_from number (1 + length found)) (told-commits set (is_refusal violation))
new-numbers formats store risen number found keys set (Err (DatabaseFull weight front)) own judged = refl
new-numbers formats store risen number found keys set (Err (HistoryFull weight front)) own judged = refl
new-numbers formats store risen number found keys set (Err (DiskFault front)) own judged = refl

-- ---- a set that took its turn

-- a handle made, since it was another, what an answer tells: its own commits, its sets that failed, and its refused
-- patterns
pub record Makes (old new : HandleValue) (answer : Reply) : Type 0 where
  pub numbers : numbers_by old.number (commits_of new.seen)
      ≡ numbers_by old.number (commits_of old.seen) ++ numbers_told answer
  pub failures : failures_in new.own ≡ failures_in old.own + failures_told answer
  pub refusals : refusals_in new.own ≡ refusals_in old.own + refusals_told answer

-- it made nothing, and neither did the answer tell of something
pub silent-makes : (old new : HandleValue) (answer : Reply) → old.own ≡ made_by maker_of old.number old.seen
    → new.own ≡ made_by maker_of new.number new.seen → IsSince old new → IsSilent answer → Makes old new answer
silent-makes old new answer was is since silent = record {
  numbers = numbers-since old new was is since ∙ sym (append-nil (numbers_by old.number (commits_of old.seen))) ∙ ap (λ (l : List ℕ). numbers_by old.number (commits_of old.seen) ++ l) (sym silent.numbers);
  failures = omega (arith, ap failures_in since.own, silent.failures);
  refusals = omega (arith, ap refusals_in since.own, silent.refusals);
}

-- Some keys were set, which need not be the working set
module _ (formats : Formats) (files : List MountedFile) (parent : Name) (keys : KeyMap) (working : Held) (old new : HandleValue) (result : Result Done CommitFault) (stored : IsStored formats files old new parent keys result) where
  abbrev store : Store
  store = store_at files

  abbrev view : sets.Prepared
  view = prepared_of stored.set

  abbrev found : List Commit
  found = commits_of stored.done.found

  later_is : commits_of new.seen ≡ found ++ commits_of (told_by view result)
  later_is = ap commits_of stored.done.sees ∙ commits-append stored.done.found (told_by view result)

  far : length (commits_of old.seen) ≤ length found
  far = longer-commits old.seen stored.done.found stored.done.seen

  -- what the record becomes
  record_is : record_of new.rec
      ≡ record_then store found (set_by store old.number (session_of old working 0) parent keys) result (record_of old.rec)
  record_is =
      records-then store found view _ result (record_of old.rec) (record_of new.rec) stored.made.is stored.done.kept

  pub stored-seen : IsPrefix old.seen new.seen
  stored-seen =
      prefix-trans old.seen stored.done.found new.seen stored.done.seen (told_by view result, sym stored.done.sees)

  pub within : (told : ℕ) → told ≤ length (commits_of old.seen) → told_then result told ≤ length (commits_of new.seen)
  within told le =
      told-within formats store (tells_refusal result) found (commits_of new.seen) (replay store.start found) view result told (omega (arith, le, far)) later_is stored.done.judged

  pub judged-then : (told : ℕ) → told ≤ length (commits_of old.seen) → result ≢ Err Memory
      → IsJudgedThen formats store old.number (commits_of new.seen) parent keys (session_of old working told) (set_reply result) (session_of new working (told_then result told))
  judged-then told le known = record {
    past = found;
    no_less = omega (arith, le, far);
    result = result;
    known = known;
    early = subst (λ (s : sets.Prepared). IsEarly formats store s None) stored.made.is stored.made.early;
    judged = subst (λ (s : sets.Prepared). IsJudged formats store (tells_refusal result) found (replay store.start found) s result) stored.made.is stored.done.judged;
    stands = subst (λ (s : sets.Prepared). StandsNext (commits_of new.seen) found s result) stored.made.is (stands found (commits_of new.seen) view result later_is);
    reply_is = refl;
    new_is = ap (session_with (told_then result told) working) record_is;
  }

  means-judged : (told : ℕ) → told ≤ length (commits_of old.seen) → (result ≡ Err Memory) ⊎ (result ≢ Err Memory)
      → MeansSet formats store old.number (commits_of new.seen) parent keys (session_of old working told) (set_reply result) (session_of new working (told_then result told))
  means-judged told le (inr known) = inl (judged-then told le known)
  means-judged told le (inl memory) = inr (inr (inl (record {
    reply_is = ap set_reply memory;
    new_is =
        ap₂ (λ (n : ℕ) (r : Record). session_with n working r) (ap (λ (r : Result Done CommitFault). told_then r told) memory)
        (record_is ∙ ap (λ (r : Result Done CommitFault). record_then store found (set_by store old.number (session_of old working 0) parent keys) r (record_of old.rec)) memory);
  })))

  pub stored-means : (told : ℕ) → told ≤ length (commits_of old.seen)
      → MeansSet formats store old.number (commits_of new.seen) parent keys (session_of old working told) (set_reply result) (session_of new working (told_then result told))
  stored-means told le = means-judged told le (memory-or result)

  -- what it made since it was another handle, and nothing before this set
  pub stored-makes : (first : HandleValue) → first.own ≡ made_by maker_of first.number first.seen → IsSince first old
      → Makes first new (set_reply result)
  stored-makes first was since = record {
    numbers = ap (numbers_by first.number) later_is
        ∙ numbers_from-append first.number 1 found (commits_of (told_by view result))
        ∙ ap₂ (λ (one two : List ℕ). one ++ two) (numbers-same first.number first.seen stored.done.found (prefix-trans first.seen old.seen stored.done.found since.seen stored.done.seen) same)
        (new-numbers formats store (tells_refusal result) first.number found (replay store.start found) view result (ap (λ (s : sets.Prepared). s.handle) stored.made.is ∙ since.number) stored.done.judged);
    failures = omega (arith, ap failures_in stored.done.gains, failures-append old.own (told_by view result), told-failures view result, ap failures_in since.own);
    refusals = omega (arith, ap refusals_in stored.done.gains, refusals-append old.own (told_by view result), told-refusals view result, ap refusals_in since.own);
  }
    where
      same : made_by maker_of first.number stored.done.found ≡ made_by maker_of first.number first.seen
      same = ap (λ (n : ℕ). made_by maker_of n stored.done.found) (sym since.number) ∙ stored.done.own ∙ since.own ∙ was

-- a set that was refused before its turn
pub unprepared-means : (formats : Formats) (store : Store) (number : ℕ) (history : List Commit) (parent : Name)
    (keys : KeyMap) (session : Session) (why : PrepareFault)
    → UnlessMemory early_fault.Memory (IsRefused formats store number session.rec parent keys why) why
    → MeansSet formats store number history parent keys session (reply.SetRefused (set_fault.Prepare why)) session
unprepared-means formats store number history parent keys session early_fault.Memory h =
    inr (inr (inr (inl (record { reply_is = refl; new_is = refl }))))
unprepared-means formats store number history parent keys session (early_fault.NotFetched mount) h =
    inr (inl (record { why = early_fault.NotFetched mount; refused = h (λ e. absurd cc); reply_is = refl; new_is = refl }))
unprepared-means formats store number history parent keys session (early_fault.ValueTooLong key bytes) h =
    inr (inl (record { why = early_fault.ValueTooLong key bytes; refused = h (λ e. absurd cc); reply_is = refl; new_is = refl }))
unprepared-means formats store number history parent keys session (early_fault.NotStorable mount key) h =
    inr (inl (record { why = early_fault.NotStorable mount key; refused = h (λ e. absurd cc); reply_is = refl; new_is = refl }))
unprepared-means formats store number history parent keys session (early_fault.FileTooLarge mount bytes) h =
    inr (inl (record { why = early_fault.FileTooLarge mount bytes; refused = h (λ e. absurd cc); reply_is = refl; new_is = refl }))
unprepared-means formats store number history parent keys session (early_fault.BadTable fault) h =
    inr (inl (record { why = early_fault.BadTable fault; refused = h (λ e. absurd cc); reply_is = refl; new_is = refl }))

-- ---- the step

module _ (formats : Formats) {F : Type 0} (lock : Place Told) (plan : Plan F) (parent : Name) (before : Workspace) (old new : HandleValue) (was : IsReady lock plan old before) (is : IsHandle lock plan new)
    (number : new.number ≡ old.number) (procs : proc_of new.rec ≡ proc_of old.rec) where
  stored-goes : (result : Result Done CommitFault) → IsStored formats plan.mounted old new parent before.keys result
      → GoesOn formats lock plan (Set parent ∷ []) (set_reply result ∷ []) old before new before
  stored-goes result stored =
      let makes = stored-makes formats plan.mounted parent before.keys (held before None) old new result stored old was.handle_is.own (since-self old) in
      goes-keys formats lock plan (Set parent) (set_reply result) old new before before.keys was is number procs (stored-seen formats plan.mounted parent before.keys (held before None) old new result stored)
      (λ told watching le. (
        told_then result told,
        within formats plan.mounted parent before.keys (held before watching) old new result stored told le,
        stored-means formats plan.mounted parent before.keys (held before watching) old new result stored told le,
      ))
      makes.numbers makes.failures makes.refusals

  unprepared-goes : (why : PrepareFault)
      → IsSet formats plan.mounted old new parent before.keys (Err (set_fault.Prepare why))
      → GoesOn formats lock plan (Set parent ∷ []) (reply.SetRefused (set_fault.Prepare why) ∷ []) old before new before
  unprepared-goes why h =
      subst (λ (handle : HandleValue). GoesOn formats lock plan (Set parent ∷ []) (reply.SetRefused (set_fault.Prepare why) ∷ []) old before handle before) (sym h.0)
      (stays formats lock plan old before before.keys (Set parent) (reply.SetRefused (set_fault.Prepare why)) was (record { numbers = refl; failures = refl; refusals = refl })
      (λ told watching. unprepared-means formats (store_at plan.mounted) old.number (commits_of old.seen) parent before.keys (session_of old (held before watching) told) why h.1))

  set-as : (result : Result Done SetFault) → IsSet formats plan.mounted old new parent before.keys result
      → GoesOn formats lock plan (Set parent ∷ []) (stored_reply result ∷ []) old before new before
  set-as (Ok d) h = stored-goes (Ok d) h
  set-as (Err (set_fault.Commit why)) h = stored-goes (Err why) h
  set-as (Err (set_fault.Prepare why)) h = unprepared-goes why h

  pub set-goes : (result : Result Done SetFault) (d : Done) → result ≡ Ok d
      → IsSet formats plan.mounted old new parent before.keys result
      → GoesOn formats lock plan (Set parent ∷ []) (reply.SetDone d ∷ []) old before new before
  set-goes result d e h = set-as (Ok d) (subst (IsSet formats plan.mounted old new parent before.keys) e h)

  pub unset-goes : (result : Result Done SetFault) (why : SetFault) → result ≡ Err why
      → IsSet formats plan.mounted old new parent before.keys result
      → GoesOn formats lock plan (Set parent ∷ []) (reply.SetRefused why ∷ []) old before new before
  unset-goes result why e h = set-as (Err why) (subst (IsSet formats plan.mounted old new parent before.keys) e h)
