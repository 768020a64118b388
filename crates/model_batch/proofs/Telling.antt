-- What a session's steps mean: while the history goes on, one list of them behind another, and of the number of commits
-- that it was told of.
use Rattle.std.proofs.Common.{◌≡◌, ◌⊎◌, inl, inr, ℕ, ◌-◌, ◌≤◌, List, [], ◌∷◌, ◌++◌, length, Result, Ok, Err, refl, sym, ap, subst, ◌∙◌, arith}
use Rattle.std.specs.FinMap as map
use Rattle.std.specs.List.{AllByRecursion, flat_map}
use Rattle.std.proofs.lemmas.List.Concat.{flat_map-append}
use mathlib.Core.List.{IsPrefix}
use Rattle.batch_script.specs.declared.steps.Step.{Step}
use Rattle.batch_script.specs.declared.steps.Step.TheVariants.{Get, Put, MetaStep, Del, Cut, Look, Set, Merge, Watch, Poll, Undo}
use Rattle.general_words.proofs.Lists.{all_append, all_back}
use Rattle.key_merge.specs.declared.strategies.Strategy.{Strategy}
use Rattle.kdb_handle.specs.Opened.{store_at}
use Rattle.kdb_handle.specs.Remaking.{IsCutBy}
use Rattle.kdb_handle.specs.Sets.{tells_refusal}
use Rattle.kdb_handle.specs.declared.merging.MergeEnd.{MergeEnd}
use Rattle.kdb_handle.specs.declared.merging.MergeEnd.TheVariants as merge_end
use Rattle.kdb_handle.specs.declared.merging.Tried.{Tried}
use Rattle.kdb_handle.specs.declared.replies.Reply.{Reply}
use Rattle.kdb_handle.specs.declared.replies.Reply.TheVariants as reply
use Rattle.kdb_handle.specs.declared.setting.SetFault.{SetFault}
use Rattle.kdb_handle.specs.declared.setting.SetFault.TheVariants as set_fault
use Rattle.kdb_handle.specs.declared.undoing.UndoFault.TheVariants as undo_fault
use Rattle.key_edits.specs.Edits.{put_meta, put_value}
use Rattle.model_batch.specs.Merges.{EndsSo, Merges, Retries, SetsSo, Stays}
use Rattle.model_batch.specs.Replies.{fronts_of_done, fronts_of_try, fronts_told, look_reply, merge_reply, numbers_of, numbers_told, set_reply, stored_reply}
use Rattle.model_batch.specs.Sessions.{Session}
use Rattle.model_batch.specs.Sets.{IsJudgedThen, Lacks, MeansSet, StandsNext, set_by, told_then}
use Rattle.model_batch.specs.Steps.{Edits, Gets, Means, got_then}
use Rattle.model_batch.specs.Told.{IsAtLeast, Tells}
use Rattle.model_batch.specs.Watches.{Polls, Watches, news_then}
use Rattle.model_batch.proofs.JudgedLemmas.{judged-front, stands-more}
use Rattle.model_batch.proofs.UndoTells.{undoes-later, undoes-more, undoes-numbers}
use Rattle.model_batch.proofs.TriesLemmas.{cut-keeps, merged-too, tries-keep}
use Rattle.model_history.specs.History.{Commit, replay}
use Rattle.model_maps.specs.KeyMap.{KeyMap, not_below}
use Rattle.model_names.specs.Name.{Name}
use Rattle.model_specified.specs.Specified.{specified}
use Rattle.model_store.specs.Sets.{Prepared}
use Rattle.model_store.specs.Store.{Store, Formats, points_of}
use Rattle.model_store.specs.Verdicts.{commit_of}
use Rattle.mounted_files.specs.declared.files.MountedFile.{MountedFile}
use Rattle.mounted_files.specs.declared.refusals.GetFault.{GetFault}
use Rattle.seat_lock.proofs.Prefixes.{prefix-trans}
use Rattle.mounted_files.specs.declared.refusals.GetFault.TheVariants as get_fault
use Rattle.spec_cascade.specs.Found.{found}
use Rattle.spec_cascade.specs.declared.founds.Found.{Found}
use Rattle.std.specs.Prelude.{Option, Some, None, Bool}
use Rattle.store_core.specs.Answers.{IsJudged}
use Rattle.store_core.specs.declared.committing.CommitFault.{CommitFault}
use Rattle.store_core.specs.declared.committing.CommitFault.TheVariants.{Conflict, Invalid, DatabaseFull, HistoryFull, DiskFault, Memory}
use Rattle.store_core.specs.declared.committing.Done.{Done}
use Rattle.store_core.specs.declared.committing.Done.TheVariants.{Committed, Same}
use Rattle.store_verdict.specs.declared.faults.PrepareFault.TheVariants as early_fault

-- numbers are at least so high
abbrev AreAbove : ℕ → List ℕ → Type 0
AreAbove floor numbers = AllByRecursion (λ n. floor ≤ n) numbers

-- a reply whose fronts are at least so high has fronts that are at least what is less
at_least-less : (low high : ℕ) (fronts : List ℕ) → low ≤ high → AreAbove high fronts → AreAbove low fronts
at_least-less low high [] le h = tt
at_least-less low high (front ∷ fronts) le h = (omega (arith, h.0), at_least-less low high fronts le h.1)

pub all-less : (low high : ℕ) (answers : List Reply) → low ≤ high → AllByRecursion (IsAtLeast high) answers
    → AllByRecursion (IsAtLeast low) answers
all-less low high [] le h = tt
all-less low high (answer ∷ answers) le h =
    (at_least-less low high (fronts_told answer) le h.0, all-less low high answers le h.1)

-- ---- while the history goes on

pub judged-more : (formats : Formats) (store : Store) (number : ℕ) (history longer : List Commit) (parent : Name)
    (keys : KeyMap) (old new : Session) (answer : Reply) → IsPrefix history longer
    → IsJudgedThen formats store number history parent keys old answer new
    → IsJudgedThen formats store number longer parent keys old answer new
judged-more formats store number history longer parent keys old new answer p h = record {
  past = h.past;
  no_less = h.no_less;
  result = h.result;
  known = h.known;
  early = h.early;
  judged = h.judged;
  stands = stands-more history longer h.past (set_by store number old parent keys) h.result p h.stands;
  reply_is = h.reply_is;
  new_is = h.new_is;
}

-- a set of any keys
pub sets-more : (formats : Formats) (store : Store) (number : ℕ) (history longer : List Commit) (parent : Name)
    (keys : KeyMap) (old new : Session) (answer : Reply) → IsPrefix history longer
    → MeansSet formats store number history parent keys old answer new
    → MeansSet formats store number longer parent keys old answer new
sets-more formats store number history longer parent keys old new answer p (inl judged) =
    inl (judged-more formats store number history longer parent keys old new answer p judged)
sets-more formats store number history longer parent keys old new answer p (inr other) = inr other

-- a merged set
module _ (formats : Formats) (files : List MountedFile) (number : ℕ) (history longer : List Commit) (parent : Name) (p : IsPrefix history longer) where
  pub retries-more : (old new : Session) (ours : KeyMap) (item : Tried) (base theirs : KeyMap)
      → Retries formats files number history parent old ours item new base theirs
      → Retries formats files number longer parent old ours item new base theirs
  retries-more old new ours item base theirs h = record {
    mid = h.mid;
    conflict = judged-more formats (store_at files) number history longer parent ours old h.mid (set_reply (Err (Conflict item.mount item.by item.front))) p h.conflict;
    base_is = h.base_is;
    past = h.past;
    begins = prefix-trans h.past history longer h.begins p;
    no_less = h.no_less;
    good = h.good;
    again = h.again;
    theirs_is = h.theirs_is;
    new_is = h.new_is;
  }

  pub merges-more : (strategy : Strategy) (tries : ℕ) (old new : Session) (answer : Reply)
      → Merges formats files number history parent strategy tries old answer new
      → Merges formats files number longer parent strategy tries old answer new
  merges-more strategy tries old new answer h = record {
    tried = h.tried;
    end = h.end;
    after = h.after;
    keys = h.keys;
    merged =
        merged-too (Retries formats files number history parent) (Retries formats files number longer parent) (SetsSo formats files number history parent) (SetsSo formats files number longer parent) Stays retries-more
        (λ old new keys result. sets-more formats (store_at files) number history longer parent keys old new (stored_reply result) p) (points_of (store_at files)) parent strategy tries old old.working h.after h.keys h.tried h.end h.merged;
    reply_is = h.reply_is;
    new_is = h.new_is;
  }

gets-more : (files : List MountedFile) (procs : KeyMap) (number : ℕ) (history longer : List Commit) (parent : Name)
    (old new : Session) (answer : Reply) → IsPrefix history longer
    → Gets files procs number history parent old answer new → Gets files procs number longer parent old answer new
gets-more files procs number history longer parent old new answer p h =
    record {
      past = h.past;
      begins = prefix-trans h.past history longer h.begins p;
      no_less = h.no_less;
      good = h.good;
      reply_is = h.reply_is;
      new_is = h.new_is;
    }

watches-more : (history longer : List Commit) (parent : Name) (room : ℕ) (old new : Session) (answer : Reply)
    → IsPrefix history longer
    → Watches history parent room old answer new → Watches longer parent room old answer new
watches-more history longer parent room old new answer p h =
    record {
      past = h.past;
      begins = prefix-trans h.past history longer h.begins p;
      no_less = h.no_less;
      reply_is = h.reply_is;
      new_is = h.new_is;
    }

polls-more : (history longer : List Commit) (old new : Session) (answer : Reply) → IsPrefix history longer
    → Polls history old answer new → Polls longer old answer new
polls-more history longer old new answer p h = record {
  watched = h.watched;
  is_watched = h.is_watched;
  past = h.past;
  begins = prefix-trans h.past history longer h.begins p;
  no_less = h.no_less;
  reply_is = h.reply_is;
  new_is = h.new_is;
}

module _ (formats : Formats) (files : List MountedFile) (procs : KeyMap) (number : ℕ) where
  means-more : (history longer : List Commit) (old new : Session) (step : Step) (answer : Reply)
      → IsPrefix history longer
      → Means formats files procs number history old step answer new
      → Means formats files procs number longer old step answer new
  means-more history longer old new (Get parent) answer p (inl gets) =
      inl (gets-more files procs number history longer parent old new answer p gets)
  means-more history longer old new (Get parent) answer p (inr other) = inr other
  means-more history longer old new (Put name value) answer p means = means
  means-more history longer old new (MetaStep name meta value) answer p means = means
  means-more history longer old new (Del name) answer p means = means
  means-more history longer old new (Cut name) answer p means = means
  means-more history longer old new (Look name) answer p means = means
  means-more history longer old new (Set parent) answer p h =
      sets-more formats (store_at files) number history longer parent old.working old new answer p h
  means-more history longer old new (Merge parent strategy tries) answer p (inl merges) =
      inl (merges-more formats files number history longer parent p strategy tries old new answer merges)
  means-more history longer old new (Merge parent strategy tries) answer p (inr other) = inr other
  means-more history longer old new (Watch parent room) answer p (inl watches) =
      inl (watches-more history longer parent room old new answer p watches)
  means-more history longer old new (Watch parent room) answer p (inr other) = inr other
  means-more history longer old new Poll answer p (inl none) = inl none
  means-more history longer old new Poll answer p (inr (inl polls)) =
      inr (inl (polls-more history longer old new answer p polls))
  means-more history longer old new Poll answer p (inr (inr other)) = inr (inr other)
  means-more history longer old new (Undo undone) answer p (inl undoes) =
      inl (undoes-more formats files procs number undone old new answer history longer p undoes)
  means-more history longer old new (Undo undone) answer p (inr other) = inr other

  pub tells-more : (history longer : List Commit) (old new : Session) (steps : List Step) (answers : List Reply)
      → IsPrefix history longer
      → Tells formats files procs number history old steps answers new
      → Tells formats files procs number longer old steps answers new
  tells-more history longer old new [] [] p h = h
  tells-more history longer old new [] (answer ∷ answers) p h = absurd h
  tells-more history longer old new (step ∷ steps) [] p h = absurd h
  tells-more history longer old new (step ∷ steps) (answer ∷ answers) p h =
      (h.0, means-more history longer old h.0 step answer p h.1, tells-more history longer h.0 new steps answers p h.2)

  -- ---- one list behind another

  pub tells-append : (history : List Commit) (old mid new : Session) (steps later : List Step)
      (answers others : List Reply) → Tells formats files procs number history old steps answers mid
      → Tells formats files procs number history mid later others new
      → Tells formats files procs number history old (steps ++ later) (answers ++ others) new
  tells-append history old mid new [] later [] others h k =
      subst (λ (s : Session). Tells formats files procs number history s later others new) h k
  tells-append history old mid new [] later (answer ∷ answers) others h k = absurd h
  tells-append history old mid new (step ∷ steps) later [] others h k = absurd h
  tells-append history old mid new (step ∷ steps) later (answer ∷ answers) others h k =
      (h.0, h.1, tells-append history h.0 mid new steps later answers others h.2 k)

-- ---- how many commits a session was told of

-- it is told of no fewer, and each front is at least what it was
abbrev IsLater : Session → Reply → Session → Type 0
IsLater old answer new = (old.told ≤ new.told) × IsAtLeast old.told answer

lacks : (memory : Reply) (old new : Session) (answer : Reply) → ((floor : ℕ) → IsAtLeast floor memory)
    → Lacks memory old answer new → IsLater old answer new
lacks memory old new answer none h =
    (omega (arith, ap (λ (s : Session). s.told) h.new_is), subst (IsAtLeast old.told) (sym h.reply_is) (none old.told))

edits-later : (edited : KeyMap) (old new : Session) (answer : Reply) → Edits edited old answer new
    → IsLater old answer new
edits-later edited old new answer h =
    (omega (arith, ap (λ (s : Session). s.told) h.new_is), subst (IsAtLeast old.told) (sym h.reply_is) tt)

looked : (one : Option Found) (floor : ℕ) → IsAtLeast floor (look_reply one)
looked None floor = tt
looked (Some one) floor = tt

none_looked : (one : Option Found) → numbers_told (look_reply one) ≡ []
none_looked None = refl
none_looked (Some one) = refl

refused : (why : GetFault) (floor : ℕ) → IsAtLeast floor (reply.GetRefused why)
refused why floor = tt

gets-later : (files : List MountedFile) (procs : KeyMap) (number : ℕ) (history : List Commit) (parent : Name)
    (old new : Session) (answer : Reply)
    → Gets files procs number history parent old answer new → IsLater old answer new
gets-later files procs number history parent old new answer h =
    (omega (arith, ap (λ (s : Session). s.told) h.new_is, h.no_less), subst (IsAtLeast old.told) (sym h.reply_is) (h.no_less, tt))

watches-later : (history : List Commit) (parent : Name) (room : ℕ) (old new : Session) (answer : Reply)
    → Watches history parent room old answer new → IsLater old answer new
watches-later history parent room old new answer h =
    (omega (arith, ap (λ (s : Session). s.told) h.new_is, h.no_less), subst (IsAtLeast old.told) (sym h.reply_is) (h.no_less, tt))

polls-later : (history : List Commit) (old new : Session) (answer : Reply) → Polls history old answer new
    → IsLater old answer new
polls-later history old new answer h =
    (omega (arith, ap (λ (s : Session). s.told) h.new_is, h.no_less), subst (IsAtLeast old.told) (sym h.reply_is) (h.no_less, tt))

pub set-later : (formats : Formats) (store : Store) (number : ℕ) (history : List Commit) (parent : Name) (keys : KeyMap)
    (old new : Session) (answer : Reply)
    → MeansSet formats store number history parent keys old answer new → IsLater old answer new
set-later formats store number history parent keys old new answer (inl h) =
    let told = judged-front formats store (tells_refusal h.result) h.past (replay store.start h.past) (set_by store number old parent keys) old.told h.result h.no_less h.judged in
    (omega (arith, told.0, ap (λ (s : Session). s.told) h.new_is), subst (IsAtLeast old.told) (sym h.reply_is) told.1)
set-later formats store number history parent keys old new answer (inr (inl h)) =
    (omega (arith, ap (λ (s : Session). s.told) h.new_is), subst (IsAtLeast old.told) (sym h.reply_is) tt)
set-later formats store number history parent keys old new answer (inr (inr (inl h))) =
    lacks (reply.SetRefused (set_fault.Commit Memory)) old new answer (λ floor. tt) h
set-later formats store number history parent keys old new answer (inr (inr (inr (inl h)))) =
    lacks (reply.SetRefused (set_fault.Prepare early_fault.Memory)) old new answer (λ floor. tt) h
set-later formats store number history parent keys old new answer (inr (inr (inr (inr h)))) =
    lacks reply.Memory old new answer (λ floor. tt) h

-- a commit has the number behind the front that it tells
done-behind : (floor : ℕ) (done : Done) → AreAbove floor (fronts_of_done done)
    → AllByRecursion (λ n. floor ≤ n - 1) (numbers_of done)
done-behind floor (Committed number aside) h = h
done-behind floor (Same front aside) h = tt

pub numbers-behind : (floor : ℕ) (answer : Reply) → IsAtLeast floor answer
    → AllByRecursion (λ n. floor ≤ n - 1) (numbers_told answer)
numbers-behind floor (reply.Got front count) h = tt
numbers-behind floor (reply.GetRefused why) h = tt
numbers-behind floor reply.Quiet h = tt
numbers-behind floor (reply.LookFound name value) h = tt
numbers-behind floor reply.LookNone h = tt
numbers-behind floor (reply.SetDone done) h = done-behind floor done h
numbers-behind floor (reply.SetRefused why) h = tt
numbers-behind floor (reply.Merged merging) h =
    done-behind floor merging.done (all_back (λ front. floor ≤ front) (flat_map fronts_of_try merging.tried) (fronts_of_done merging.done) h)
numbers-behind floor (reply.MergeRefused fault) h = tt
numbers-behind floor (reply.Watching front) h = tt
numbers-behind floor (reply.News told) h = tt
numbers-behind floor reply.NoWatch h = tt
numbers-behind floor (reply.Undone done) h = done-behind floor done h
numbers-behind floor (reply.UndoRefused why) h = tt
numbers-behind floor reply.Memory h = tt

-- a merged set tells of no fewer with each try, and with its end
module _ (formats : Formats) (files : List MountedFile) (number : ℕ) (history : List Commit) (parent : Name) (floor : ℕ) where
  abbrev AreLater : List Tried → Session → Type 0
  AreLater before s = (floor ≤ s.told) × AreAbove floor (flat_map fronts_of_try before)

  retry-later : (before : List Tried) (old new : Session) (ours : KeyMap) (item : Tried) (base theirs : KeyMap)
      → Retries formats files number history parent old ours item new base theirs
      → Unit {0} → AreLater before old → AreLater (before ++ item ∷ []) new
  retry-later before old new ours item base theirs h within held =
      let set = set-later formats (store_at files) number history parent ours old h.mid (set_reply (Err (Conflict item.mount item.by item.front))) (inl h.conflict) in
      let now : new.told ≡ length h.past = ap (λ (s : Session). s.told) h.new_is in (
        omega (arith, held.0, set.0, h.no_less, now),
        subst (AreAbove floor) (sym (flat_map-append fronts_of_try before (item ∷ [])))
            (all_append (λ front. floor ≤ front) (flat_map fronts_of_try before) (fronts_of_try item) held.1
            (omega (arith, held.0, set.1.0), (omega (arith, held.0, set.0, h.no_less, h.again), tt))),
      )

  module _ (strategy : Strategy) (tries : ℕ) (last new : Session) (keys : KeyMap) (made tried : List Tried) (held : AreLater made last) where
    abbrev Reaches : Result Done MergeEnd → Type 0
    Reaches end = (floor ≤ new.told) × AreAbove floor (fronts_told (merge_reply tried end))

    -- the items, and what the end tells
    both : (fronts : List ℕ) → AreLater tried new → AreAbove floor fronts
        → (floor ≤ new.told) × AreAbove floor (flat_map fronts_of_try tried ++ fronts)
    both fronts items end =
        (items.0, all_append (λ front. floor ≤ front) (flat_map fronts_of_try tried) fronts items.1 end)

    by_set : (result : Result Done SetFault) → tried ≡ made
        → SetsSo formats files number history parent last new keys result
        → (floor ≤ new.told) × AreAbove floor (flat_map fronts_of_try tried ++ fronts_told (stored_reply result))
    by_set result same set =
        let later = set-later formats (store_at files) number history parent keys last new (stored_reply result) set in
        let told : floor ≤ new.told = omega (arith, held.0, later.0) in
        both (fronts_told (stored_reply result)) (told, subst (λ (items : List Tried). AreAbove floor (flat_map fronts_of_try items)) (sym same) held.1)
        (at_least-less floor last.told (fronts_told (stored_reply result)) held.0 later.1)

    by_cut : (Unmade : KeyMap → KeyMap → Type 0)
        → IsCutBy (Retries formats files number history parent) last keys made new tried Unmade → AreLater tried new
    by_cut Unmade cut =
        cut-keeps (Retries formats files number history parent) (points_of (store_at files)) parent strategy (λ s. Unit {0}) (λ old new ours item base theirs retry within. tt) AreLater retry-later
        last keys made new tried Unmade cut tt held

    end-later : (end : Result Done MergeEnd)
        → EndsSo formats files number history parent strategy tries last keys made new tried end → Reaches end
    end-later (Ok done) h = by_set (Ok done) h.0 h.1
    end-later (Err (merge_end.TriesSpent mount by front)) h =
        by_set (Err (set_fault.Commit (Conflict mount by front))) h.0 h.1
    end-later (Err (merge_end.Set why)) h = by_set (Err why) h.0 h.1
    end-later (Err (merge_end.MergeConflicts names)) h = both [] (by_cut _ h) tt
    end-later (Err merge_end.Memory) (inl idle) =
        both []
        (subst (λ (s : Session). AreLater tried s) (sym idle.1) (subst (λ (items : List Tried). AreLater items last) (sym idle.0) held))
        tt
    end-later (Err merge_end.Memory) (inr cut) = both [] (by_cut _ cut) tt

merges-later : (formats : Formats) (files : List MountedFile) (number : ℕ) (history : List Commit) (parent : Name)
    (strategy : Strategy) (tries : ℕ) (old new : Session) (answer : Reply)
    → Merges formats files number history parent strategy tries old answer new → IsLater old answer new
merges-later formats files number history parent strategy tries old new answer h =
    let merged = h.merged in
    let retry = Retries formats files number history parent in
    let held =
    tries-keep retry (points_of (store_at files)) parent strategy (λ s. Unit {0}) (λ old new ours item base theirs retry within. tt) (AreLater formats files number history parent old.told)
    (retry-later formats files number history parent old.told) [] old old.working merged.made merged.last merged.keys merged.retries tt (omega arith, tt) in
    let ended = end-later formats files number history parent old.told strategy tries merged.last h.after merged.keys merged.made h.tried held h.end merged.ends in
    (omega (arith, ended.0, ap (λ (s : Session). s.told) h.new_is), subst (IsAtLeast old.told) (sym h.reply_is) ended.1)

-- ---- the numbers that a step tells are told then

-- the numbers of the commits that a reply tells are at most so high
abbrev pub IsAtMost : ℕ → Reply → Type 0
IsAtMost ceiling answer = AllByRecursion (λ n. n ≤ ceiling) (numbers_told answer)

set-numbers : (formats : Formats) (store : Store) (number : ℕ) (history : List Commit) (parent : Name) (keys : KeyMap)
    (old new : Session) (answer : Reply)
    → MeansSet formats store number history parent keys old answer new → IsAtMost new.told answer
set-numbers formats store number history parent keys old new answer (inl h) =
    subst (IsAtMost new.told) (sym h.reply_is) (by h.result (ap (λ (s : Session). s.told) h.new_is))
  where
    by : (result : Result Done CommitFault) → new.told ≡ told_then result old.told
        → IsAtMost new.told (set_reply result)
    by (Ok (Committed n aside)) is = (omega (arith, is), tt)
    by (Ok (Same front aside)) is = tt
    by (Err why) is = tt
set-numbers formats store number history parent keys old new answer (inr (inl h)) =
    subst (IsAtMost new.told) (sym h.reply_is) tt
set-numbers formats store number history parent keys old new answer (inr (inr (inl h))) =
    subst (IsAtMost new.told) (sym h.reply_is) tt
set-numbers formats store number history parent keys old new answer (inr (inr (inr (inl h)))) =
    subst (IsAtMost new.told) (sym h.reply_is) tt
set-numbers formats store number history parent keys old new answer (inr (inr (inr (inr h)))) =
    subst (IsAtMost new.told) (sym h.reply_is) tt

merges-numbers : (formats : Formats) (files : List MountedFile) (number : ℕ) (history : List Commit) (parent : Name)
    (strategy : Strategy) (tries : ℕ) (old new : Session) (answer : Reply)
    → Merges formats files number history parent strategy tries old answer new → IsAtMost new.told answer
merges-numbers formats files number history parent strategy tries old new answer h =
    subst (IsAtMost new.told) (sym h.reply_is)
    (subst (λ (s : Session). IsAtMost s.told (merge_reply h.tried h.end)) (sym h.new_is) (by h.end h.merged.ends))
  where
    by : (end : Result Done MergeEnd)
        → EndsSo formats files number history parent strategy tries h.merged.last h.merged.keys h.merged.made h.after h.tried end
        → IsAtMost h.after.told (merge_reply h.tried end)
    by (Ok done) ends =
        set-numbers formats (store_at files) number history parent h.merged.keys h.merged.last h.after (stored_reply (Ok done)) ends.1
    by (Err end) ends = tt

-- ---- a step

-- an edit, or no memory for it
edit-later : (edited : KeyMap) (old new : Session) (answer : Reply)
    → Edits edited old answer new ⊎ Lacks reply.Memory old answer new → IsLater old answer new
edit-later edited old new answer (inl h) = edits-later edited old new answer h
edit-later edited old new answer (inr h) = lacks reply.Memory old new answer (λ floor. tt) h

module _ (formats : Formats) (files : List MountedFile) (procs : KeyMap) (number : ℕ) where
  pub means-later : (history : List Commit) (old new : Session) (step : Step) (answer : Reply)
      → Means formats files procs number history old step answer new → IsLater old answer new
  means-later history old new (Get parent) answer (inl h) =
      gets-later files procs number history parent old new answer h
  means-later history old new (Get parent) answer (inr (inl h)) =
      (omega (arith, ap (λ (s : Session). s.told) h.new_is), subst (IsAtLeast old.told) (sym h.reply_is) (refused h.why old.told))
  means-later history old new (Get parent) answer (inr (inr (inl h))) =
      lacks (reply.GetRefused get_fault.Memory) old new answer (λ floor. tt) h
  means-later history old new (Get parent) answer (inr (inr (inr h))) =
      lacks reply.Memory old new answer (λ floor. tt) h
  means-later history old new (Put name value) answer h = edit-later (put_value old.working name value) old new answer h
  means-later history old new (MetaStep name meta value) answer h =
      edit-later (put_meta old.working name meta value) old new answer h
  means-later history old new (Del name) answer h = edit-later (map.remove old.working name) old new answer h
  means-later history old new (Cut name) answer h = edit-later (not_below name old.working) old new answer h
  means-later history old new (Look name) answer (inl h) =
      (omega (arith, ap (λ (s : Session). s.told) h.new_is), subst (IsAtLeast old.told) (sym h.reply_is) (looked (found (specified old.working) name) old.told))
  means-later history old new (Look name) answer (inr h) = lacks reply.Memory old new answer (λ floor. tt) h
  means-later history old new (Set parent) answer h =
      set-later formats (store_at files) number history parent old.working old new answer h
  means-later history old new (Merge parent strategy tries) answer (inl merges) =
      merges-later formats files number history parent strategy tries old new answer merges
  means-later history old new (Merge parent strategy tries) answer (inr h) =
      lacks reply.Memory old new answer (λ floor. tt) h
  means-later history old new (Watch parent room) answer (inl h) = watches-later history parent room old new answer h
  means-later history old new (Watch parent room) answer (inr h) = lacks reply.Memory old new answer (λ floor. tt) h
  means-later history old new Poll answer (inl h) =
      (omega (arith, ap (λ (s : Session). s.told) h.new_is), subst (IsAtLeast old.told) (sym h.reply_is) tt)
  means-later history old new Poll answer (inr (inl h)) = polls-later history old new answer h
  means-later history old new Poll answer (inr (inr h)) = lacks reply.Memory old new answer (λ floor. tt) h
  means-later history old new (Undo undone) answer (inl h) =
      undoes-later formats files procs number undone old new answer history h
  means-later history old new (Undo undone) answer (inr (inl h)) =
      lacks (reply.UndoRefused undo_fault.Memory) old new answer (λ floor. tt) h
  means-later history old new (Undo undone) answer (inr (inr h)) = lacks reply.Memory old new answer (λ floor. tt) h

  -- a reply that tells no number
  unnumbered : (said : Reply) (told : ℕ) (answer : Reply) → numbers_told said ≡ [] → answer ≡ said
      → IsAtMost told answer
  unnumbered said told answer none is = subst (AllByRecursion (λ n. n ≤ told)) (sym (ap numbers_told is ∙ none)) tt

  edit-numbers : (edited : KeyMap) (old new : Session) (answer : Reply)
      → Edits edited old answer new ⊎ Lacks reply.Memory old answer new → IsAtMost new.told answer
  edit-numbers edited old new answer (inl h) = unnumbered reply.Quiet new.told answer refl h.reply_is
  edit-numbers edited old new answer (inr h) = unnumbered reply.Memory new.told answer refl h.reply_is

  pub means-numbers : (history : List Commit) (old new : Session) (step : Step) (answer : Reply)
      → Means formats files procs number history old step answer new → IsAtMost new.told answer
  means-numbers history old new (Get parent) answer (inl h) =
      unnumbered (reply.Got (length h.past) (length (map.entries (got_then files procs number h.past parent)))) new.told answer refl h.reply_is
  means-numbers history old new (Get parent) answer (inr (inl h)) =
      unnumbered (reply.GetRefused h.why) new.told answer refl h.reply_is
  means-numbers history old new (Get parent) answer (inr (inr (inl h))) =
      unnumbered (reply.GetRefused get_fault.Memory) new.told answer refl h.reply_is
  means-numbers history old new (Get parent) answer (inr (inr (inr h))) =
      unnumbered reply.Memory new.told answer refl h.reply_is
  means-numbers history old new (Put name value) answer h =
      edit-numbers (put_value old.working name value) old new answer h
  means-numbers history old new (MetaStep name meta value) answer h =
      edit-numbers (put_meta old.working name meta value) old new answer h
  means-numbers history old new (Del name) answer h = edit-numbers (map.remove old.working name) old new answer h
  means-numbers history old new (Cut name) answer h = edit-numbers (not_below name old.working) old new answer h
  means-numbers history old new (Look name) answer (inl h) =
      let one = found (specified old.working) name in
      unnumbered (look_reply one) new.told answer (none_looked one) h.reply_is
  means-numbers history old new (Look name) answer (inr h) = unnumbered reply.Memory new.told answer refl h.reply_is
  means-numbers history old new (Set parent) answer h =
      set-numbers formats (store_at files) number history parent old.working old new answer h
  means-numbers history old new (Merge parent strategy tries) answer (inl h) =
      merges-numbers formats files number history parent strategy tries old new answer h
  means-numbers history old new (Merge parent strategy tries) answer (inr h) =
      unnumbered reply.Memory new.told answer refl h.reply_is
  means-numbers history old new (Watch parent room) answer (inl h) =
      unnumbered (reply.Watching (length h.past)) new.told answer refl h.reply_is
  means-numbers history old new (Watch parent room) answer (inr h) =
      unnumbered reply.Memory new.told answer refl h.reply_is
  means-numbers history old new Poll answer (inl h) = unnumbered reply.NoWatch new.told answer refl h.reply_is
  means-numbers history old new Poll answer (inr (inl h)) =
      unnumbered (reply.News (news_then h.watched h.past)) new.told answer refl h.reply_is
  means-numbers history old new Poll answer (inr (inr h)) = unnumbered reply.Memory new.told answer refl h.reply_is
  means-numbers history old new (Undo undone) answer (inl h) =
      undoes-numbers formats files procs number undone old new answer history h
  means-numbers history old new (Undo undone) answer (inr (inl h)) =
      unnumbered (reply.UndoRefused undo_fault.Memory) new.told answer refl h.reply_is
  means-numbers history old new (Undo undone) answer (inr (inr h)) =
      unnumbered reply.Memory new.told answer refl h.reply_is

  pub tells-later : (history : List Commit) (old new : Session) (steps : List Step) (answers : List Reply)
      → Tells formats files procs number history old steps answers new
      → (old.told ≤ new.told) × AllByRecursion (IsAtLeast old.told) answers
  tells-later history old new [] [] h = (omega (arith, ap (λ (s : Session). s.told) h), tt)
  tells-later history old new [] (answer ∷ answers) h = absurd h
  tells-later history old new (step ∷ steps) [] h = absurd h
  tells-later history old new (step ∷ steps) (answer ∷ answers) h =
      let first = means-later history old h.0 step answer h.1 in
      let rest = tells-later history h.0 new steps answers h.2 in
      (omega (arith, first.0, rest.0), (first.1, all-less old.told h.0.told answers first.0 rest.1))
