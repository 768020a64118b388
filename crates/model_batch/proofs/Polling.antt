-- Polls one after the other tell each change once, in order, or count it: a step that is no watch and no poll leaves
-- what is watched, and a poll watches on from where its news end.
use Rattle.std.proofs.Common.{◌≡◌, ◌⊎◌, inl, inr, ℕ, ◌+◌, ◌-◌, ◌<◌, ◌≤◌, true, false, List, [], ◌∷◌, ◌++◌, length, take, Option, Some, None, Result, Ok, Err, refl, sym, ap, subst, ◌∙◌, append_assoc, arith, length-drop, length-take, take-append-drop}
use Rattle.std.specs.List.{AllByRecursion, flat_map}
use Rattle.circular_buffer.specs.Buffer.{keep_last}
use mathlib.Core.List.{IsPrefix}
use Rattle.batch_script.specs.declared.steps.Step.{Step}
use Rattle.batch_script.specs.declared.steps.Step.TheVariants.{Get, Put, MetaStep, Del, Cut, Look, Set, Merge, Watch, Poll, Undo}
use Rattle.general_words.proofs.Lists.{some_is}
use Rattle.key_merge.specs.declared.strategies.Strategy.{Strategy}
use Rattle.kdb_handle.specs.Opened.{store_at}
use Rattle.kdb_handle.specs.Remaking.{IsCutBy}
use Rattle.kdb_handle.specs.declared.merging.MergeEnd.{MergeEnd}
use Rattle.kdb_handle.specs.declared.merging.MergeEnd.TheVariants as merge_end
use Rattle.kdb_handle.specs.declared.merging.Tried.{Tried}
use Rattle.kdb_handle.specs.declared.replies.Reply.{Reply}
use Rattle.kdb_handle.specs.declared.replies.Reply.TheVariants as reply
use Rattle.kdb_handle.specs.declared.setting.SetFault.{SetFault}
use Rattle.kdb_handle.specs.declared.setting.SetFault.TheVariants as set_fault
use Rattle.kdb_handle.specs.declared.undoing.UndoFault.{UndoFault}
use Rattle.kdb_handle.specs.declared.undoing.UndoFault.TheVariants as undo_fault
use Rattle.model_batch.specs.Fair.{IsFair, of_session}
use Rattle.model_batch.specs.Merges.{EndsSo, Merges, Retries, SetsSo}
use Rattle.model_batch.specs.Replies.{look_reply, merge_reply, set_reply, stored_reply, undo_reply}
use Rattle.model_batch.specs.Sessions.{Session, Watching, first_session}
use Rattle.model_batch.specs.Sets.{Lacks, MeansSet}
use Rattle.model_batch.specs.Steps.{Edits, Means}
use Rattle.model_batch.specs.Told.{Tells}
use Rattle.model_batch.specs.Watches.{Follows, begins_watch, changes_then, news_told, news_then}
use Rattle.model_batch.proofs.Knowing.{fair-flat}
use Rattle.model_batch.proofs.Telling.{means-later}
use Rattle.model_batch.proofs.TriesLemmas.{cut-keeps, tries-keep}
use Rattle.model_history.specs.History.{Commit}
use Rattle.model_maps.specs.KeyMap.{KeyMap}
use Rattle.model_names.specs.Name.{Name}
use Rattle.model_specified.specs.Specified.{specified}
use Rattle.model_store.specs.Store.{Formats, Store, points_of}
use Rattle.mounted_files.specs.declared.files.MountedFile.{MountedFile}
use Rattle.mounted_files.specs.declared.refusals.GetFault.TheVariants as get_fault
use Rattle.seat_lock.proofs.Prefixes.{prefix-length}
use Rattle.spec_cascade.specs.Found.{found}
use Rattle.spec_cascade.specs.declared.founds.Found.{Found}
use Rattle.store_core.specs.declared.committing.CommitFault.{CommitFault}
use Rattle.store_core.specs.declared.committing.CommitFault.TheVariants.{Conflict, Memory}
use Rattle.store_core.specs.declared.committing.Done.{Done}
use Rattle.store_verdict.specs.declared.faults.PrepareFault.TheVariants as early_fault
use Rattle.watch_feed.specs.News.{news}
use Rattle.watch_feed.specs.Polls.{AreTold, IsTold}
use Rattle.watch_feed.specs.declared.news.Changed.{Changed}
use Rattle.watch_feed.specs.declared.news.News.{News}
use Rattle.watch_feed.proofs.NewsLemmas.{news-goes_on, news-longer, news-none}

-- ---- what leaves a watch as it is

-- a reply tells no news, and what is watched stays
pub record LeavesWatch (old : Session) (answer : Reply) (new : Session) : Type 0 where
  pub none : news_told answer ≡ []
  pub same : new.watching ≡ old.watching

-- by what the reply and the session are
left : (said : Reply) (old made : Session) (answer : Reply) (new : Session) → news_told said ≡ []
    → made.watching ≡ old.watching → answer ≡ said → new ≡ made → LeavesWatch old answer new
left said old made answer new none same reply_is new_is =
    record { none = ap news_told reply_is ∙ none; same = ap (λ (s : Session). s.watching) new_is ∙ same }

lacked : (memory : Reply) (old : Session) (answer : Reply) (new : Session) → news_told memory ≡ []
    → Lacks memory old answer new → LeavesWatch old answer new
lacked memory old answer new none h = left memory old old answer new none refl h.reply_is h.new_is

edited-left : (edited : KeyMap) (old : Session) (answer : Reply) (new : Session)
    → Edits edited old answer new ⊎ Lacks reply.Memory old answer new → LeavesWatch old answer new
edited-left edited old answer new (inl h) =
    left reply.Quiet old (record old { working = edited }) answer new refl refl h.reply_is h.new_is
edited-left edited old answer new (inr h) = lacked reply.Memory old answer new refl h

looked : (one : Option Found) → news_told (look_reply one) ≡ []
looked None = refl
looked (Some one) = refl

judged : (result : Result Done CommitFault) → news_told (set_reply result) ≡ []
judged (Ok done) = refl
judged (Err why) = refl

merged : (tried : List Tried) (end : Result Done MergeEnd) → news_told (merge_reply tried end) ≡ []
merged tried (Ok done) = refl
merged tried (Err end) = refl

pub set-left : (formats : Formats) (store : Store) (number : ℕ) (history : List Commit) (parent : Name) (keys : KeyMap)
    (old : Session) (answer : Reply) (new : Session)
    → MeansSet formats store number history parent keys old answer new → LeavesWatch old answer new
set-left formats store number history parent keys old answer new (inl h) =
    record { none = ap news_told h.reply_is ∙ judged h.result; same = ap (λ (s : Session). s.watching) h.new_is }
set-left formats store number history parent keys old answer new (inr (inl h)) =
    left (reply.SetRefused (set_fault.Prepare h.why)) old old answer new refl refl h.reply_is h.new_is
set-left formats store number history parent keys old answer new (inr (inr (inl h))) =
    lacked (reply.SetRefused (set_fault.Commit Memory)) old answer new refl h
set-left formats store number history parent keys old answer new (inr (inr (inr (inl h)))) =
    lacked (reply.SetRefused (set_fault.Prepare early_fault.Memory)) old answer new refl h
set-left formats store number history parent keys old answer new (inr (inr (inr (inr h)))) =
    lacked reply.Memory old answer new refl h

-- ---- a merged set

module _ (formats : Formats) (files : List MountedFile) (number : ℕ) (history : List Commit) (parent : Name) (first : Option Watching) where
  abbrev StillWatches : List Tried → Session → Type 0
  StillWatches before s = s.watching ≡ first

  retry-left : (before : List Tried) (old new : Session) (ours : KeyMap) (item : Tried) (base theirs : KeyMap)
      → Retries formats files number history parent old ours item new base theirs
      → Unit {0} → StillWatches before old → StillWatches (before ++ item ∷ []) new
  retry-left before old new ours item base theirs h within held =
      let set = set-left formats (store_at files) number history parent ours old (set_reply (Err (Conflict item.mount item.by item.front))) h.mid (inl h.conflict) in
      ap (λ (s : Session). s.watching) h.new_is ∙ set.same ∙ held

  module _ (strategy : Strategy) (tries : ℕ) (last new : Session) (keys : KeyMap) (made tried : List Tried) (held : last.watching ≡ first) where
    by_set : (result : Result Done SetFault) → SetsSo formats files number history parent last new keys result
        → new.watching ≡ first
    by_set result set =
        (set-left formats (store_at files) number history parent keys last (stored_reply result) new set).same ∙ held

    by_cut : (Unmade : KeyMap → KeyMap → Type 0)
        → IsCutBy (Retries formats files number history parent) last keys made new tried Unmade → new.watching ≡ first
    by_cut Unmade cut =
        cut-keeps (Retries formats files number history parent) (points_of (store_at files)) parent strategy (λ s. Unit {0}) (λ old new ours item base theirs retry within. tt) StillWatches retry-left
        last keys made new tried Unmade cut tt held

    end-left : (end : Result Done MergeEnd)
        → EndsSo formats files number history parent strategy tries last keys made new tried end → new.watching ≡ first
    end-left (Ok done) h = by_set (Ok done) h.1
    end-left (Err (merge_end.TriesSpent mount by front)) h =
        by_set (Err (set_fault.Commit (Conflict mount by front))) h.1
    end-left (Err (merge_end.Set why)) h = by_set (Err why) h.1
    end-left (Err (merge_end.MergeConflicts names)) h = by_cut _ h
    end-left (Err merge_end.Memory) (inl idle) = ap (λ (s : Session). s.watching) idle.1 ∙ held
    end-left (Err merge_end.Memory) (inr cut) = by_cut _ cut

merge-left : (formats : Formats) (files : List MountedFile) (number : ℕ) (history : List Commit) (parent : Name)
    (strategy : Strategy) (tries : ℕ) (old : Session) (answer : Reply) (new : Session)
    → Merges formats files number history parent strategy tries old answer new → LeavesWatch old answer new
merge-left formats files number history parent strategy tries old answer new h =
    let way = h.merged in
    let held =
    tries-keep (Retries formats files number history parent) (points_of (store_at files)) parent strategy (λ s. Unit {0}) (λ old new ours item base theirs retry within. tt)
    (StillWatches formats files number history parent old.watching) (retry-left formats files number history parent old.watching) [] old old.working way.made way.last way.keys way.retries tt refl in
    let ended = end-left formats files number history parent old.watching strategy tries way.last h.after way.keys way.made h.tried held h.end way.ends in
    record {
      none = ap news_told h.reply_is ∙ merged h.tried h.end;
      same = ap (λ (s : Session). s.watching) h.new_is ∙ ended;
    }

-- ---- a step

-- a poll told what changed in the first so many commits, and the session watches from there
pub record Polled (history : List Commit) (watched : Watching) (answer : Reply) (new : Session) : Type 0 where
  pub past : List Commit
  pub begins : IsPrefix past history
  pub from : watched.from ≤ length past
  pub reply_is : answer ≡ reply.News (news_then watched past)
  pub told_is : new.told ≡ length past
  pub watching_is : new.watching ≡ Some (record watched { from = length past })

-- an undoing tells none
undone-news : (result : Result Done UndoFault) → news_told (undo_reply result) ≡ []
undone-news (Ok done) = refl
undone-news (Err why) = refl

no-watch : {A : Type 0} → true ≡ false → A
no-watch e = absurd cc

module _ (formats : Formats) (files : List MountedFile) (procs : KeyMap) (number : ℕ) (history : List Commit) (watched : Watching) where
  -- where something is watched and the reply begins no watch, the step leaves it or was a poll
  step-watched : (old new : Session) (step : Step) (answer : Reply)
      → Means formats files procs number history old step answer new → old.watching ≡ Some watched
      → watched.from ≤ old.told → begins_watch answer ≡ false
      → LeavesWatch old answer new ⊎ Polled history watched answer new
  step-watched old new (Get parent) answer (inl h) is le none =
      inl (record { none = ap news_told h.reply_is; same = ap (λ (s : Session). s.watching) h.new_is })
  step-watched old new (Get parent) answer (inr (inl h)) is le none =
      inl (left (reply.GetRefused h.why) old old answer new refl refl h.reply_is h.new_is)
  step-watched old new (Get parent) answer (inr (inr (inl h))) is le none =
      inl (lacked (reply.GetRefused get_fault.Memory) old answer new refl h)
  step-watched old new (Get parent) answer (inr (inr (inr h))) is le none =
      inl (lacked reply.Memory old answer new refl h)
  step-watched old new (Put name value) answer h is le none = inl (edited-left _ old answer new h)
  step-watched old new (MetaStep name meta value) answer h is le none = inl (edited-left _ old answer new h)
  step-watched old new (Del name) answer h is le none = inl (edited-left _ old answer new h)
  step-watched old new (Cut name) answer h is le none = inl (edited-left _ old answer new h)
  step-watched old new (Look name) answer (inl h) is le none =
      let one = found (specified old.working) name in
      inl (left (look_reply one) old old answer new (looked one) refl h.reply_is h.new_is)
  step-watched old new (Look name) answer (inr h) is le none = inl (lacked reply.Memory old answer new refl h)
  step-watched old new (Set parent) answer h is le none =
      inl (set-left formats (store_at files) number history parent old.working old answer new h)
  step-watched old new (Merge parent strategy tries) answer (inl h) is le none =
      inl (merge-left formats files number history parent strategy tries old answer new h)
  step-watched old new (Merge parent strategy tries) answer (inr h) is le none =
      inl (lacked reply.Memory old answer new refl h)
  step-watched old new (Watch parent room) answer (inl h) is le none =
      no-watch (sym (ap begins_watch h.reply_is) ∙ none)
  step-watched old new (Watch parent room) answer (inr h) is le none = inl (lacked reply.Memory old answer new refl h)
  step-watched old new Poll answer (inl h) is le none = let e : None ≡ Some watched = sym h.none ∙ is in absurd cc
  step-watched old new Poll answer (inr (inl h)) is le none =
      let same : h.watched ≡ watched = some_is h.watched watched (sym h.is_watched ∙ is) in
      inr (record {
        past = h.past;
        begins = h.begins;
        from = omega (arith, le, h.no_less);
        reply_is = h.reply_is ∙ ap (λ (w : Watching). reply.News (news_then w h.past)) same;
        told_is = ap (λ (s : Session). s.told) h.new_is;
        watching_is = ap (λ (s : Session). s.watching) h.new_is ∙ ap (λ (w : Watching). Some (record w { from = length h.past })) same;
      })
  step-watched old new Poll answer (inr (inr h)) is le none = inl (lacked reply.Memory old answer new refl h)
  step-watched old new (Undo undone) answer (inl h) is le none =
      inl (record { none = ap news_told h.reply_is ∙ undone-news h.result; same = ap (λ (s : Session). s.watching) h.new_is })
  step-watched old new (Undo undone) answer (inr (inl h)) is le none =
      inl (lacked (reply.UndoRefused undo_fault.Memory) old answer new refl h)
  step-watched old new (Undo undone) answer (inr (inr h)) is le none = inl (lacked reply.Memory old answer new refl h)

-- ---- step by step

-- the front that a watch tells
abbrev front_in : Reply → ℕ
front_in (reply.Watching front) = front
front_in other = 0

-- news behind a poll's are told behind it
told-more : (history past : List Commit) (watched : Watching) (to : ℕ) (later : List News) → IsPrefix past history
    → watched.from ≤ length past → length past ≤ to → to ≤ length history
    → AreTold watched.room (news history (length past) to watched.parent) later
    → AreTold watched.room (news history watched.from to watched.parent) (news_then watched past ∷ later)
told-more history past watched to later p le le_to within each = (take over all, rest, one, each)
  where
    all : List Changed
    all = changes_then watched past

    rest : List Changed
    rest = news history (length past) to watched.parent

    over : ℕ
    over = length all - watched.room

    first : all ≡ news history watched.from (length past) watched.parent
    first =
        sym (news-longer watched.parent past p.0 watched.from (length past) (omega arith))
        ∙ ap (λ (l : List Commit). news l watched.from (length past) watched.parent) p.1

    one : IsTold watched.room (news history watched.from to watched.parent) (take over all) rest (news_then watched past)
    one = record {
      all = news-goes_on watched.parent history watched.from (length past) to le le_to within
          ∙ ap (λ (l : List Changed). l ++ rest) (sym first ∙ sym (take-append-drop over all))
          ∙ append_assoc (take over all) (keep_last watched.room all) rest;
      count = omega (arith, length-take over all);
      full = λ some. omega (arith, length-take over all, length-drop over all, some);
    }

module _ (formats : Formats) (files : List MountedFile) (procs : KeyMap) (number : ℕ) (history : List Commit) where
  pub follows : (watched : Watching) (old new : Session) (steps : List Step) (answers : List Reply)
      → Tells formats files procs number history old steps answers new → old.watching ≡ Some watched
      → watched.from ≤ old.told
      → watched.from ≤ length history → AllByRecursion (λ answer. begins_watch answer ≡ false) answers
      → Follows history watched answers new
  follows watched old new [] [] h is le within none = record {
    to = watched.from;
    no_less = omega arith;
    within = within;
    watching_is = ap (λ (s : Session). s.watching) h ∙ is;
    each = news-none watched.parent history watched.from;
  }
  follows watched old new [] (answer ∷ answers) h is le within none = absurd h
  follows watched old new (step ∷ steps) [] h is le within none = absurd h
  follows watched old new (step ∷ steps) (answer ∷ answers) h is le within none =
      by (step-watched formats files procs number history watched old mid step answer h.1 is le none.0) (λ w. follows w mid new steps answers h.2)
    where
      mid : Session
      mid = h.0

      by : LeavesWatch old answer mid ⊎ Polled history watched answer mid
          → ((w : Watching) → mid.watching ≡ Some w → w.from ≤ mid.told → w.from ≤ length history → AllByRecursion (λ answer. begins_watch answer ≡ false) answers → Follows history w answers new)
          → Follows history watched (answer ∷ answers) new
      by (inl stays) on =
          let later = (means-later formats files procs number history old mid step answer h.1).0 in
          let next = on watched (stays.same ∙ is) (omega (arith, le, later)) within none.1 in
          record {
            to = next.to;
            no_less = next.no_less;
            within = next.within;
            watching_is = next.watching_is;
            each = subst (λ (l : List News). AreTold watched.room (news history watched.from next.to watched.parent) (l ++ flat_map news_told answers)) (sym stays.none) next.each;
          }
      by (inr polled) on =
          let next = on (record watched { from = length polled.past }) polled.watching_is (omega (arith, polled.told_is)) (prefix-length polled.past history polled.begins) none.1 in
          record {
            to = next.to;
            no_less = omega (arith, polled.from, next.no_less);
            within = next.within;
            watching_is = next.watching_is;
            each =
                subst (λ (l : List News). AreTold watched.room (news history watched.from next.to watched.parent) (l ++ flat_map news_told answers)) (sym (ap news_told polled.reply_is))
                (told-more history polled.past watched next.to (flat_map news_told answers) polled.begins polled.from next.no_less next.within next.each);
          }

  -- from a watch on
  pub watched-follows : (parent : Name) (room front : ℕ) (old new : Session) (steps : List Step) (answers : List Reply)
      → Tells formats files procs number history old (Watch parent room ∷ steps) (reply.Watching front ∷ answers) new
      → AllByRecursion (λ answer. begins_watch answer ≡ false) answers
      → Follows history (record { parent = parent; room = room; from = front }) answers new
  watched-follows parent room front old new steps answers h none = by h.1
    where
      by : Means formats files procs number history old (Watch parent room) (reply.Watching front) h.0
          → Follows history (record { parent = parent; room = room; from = front }) answers new
      by (inl watches) =
          let same : front ≡ length watches.past = ap front_in watches.reply_is in
          follows (record { parent = parent; room = room; from = front }) h.0 new steps answers h.2
          (ap (λ (s : Session). s.watching) watches.new_is ∙ ap (λ (n : ℕ). Some (record { parent = parent; room = room; from = n })) (sym same))
          (omega (arith, same, ap (λ (s : Session). s.told) watches.new_is)) (omega (arith, same, prefix-length watches.past history watches.begins)) none
      by (inr lacks) = let e : reply.Watching front ≡ reply.Memory = lacks.reply_is in absurd cc

  -- what comes behind some steps and their replies
  tells-behind : (old new : Session) (steps later : List Step) (answers others : List Reply)
      → length steps ≡ length answers
      → Tells formats files procs number history old (steps ++ later) (answers ++ others) new
      → (mid : Session) × Tells formats files procs number history mid later others new
  tells-behind old new [] later [] others many h = (old, h)
  tells-behind old new [] later (answer ∷ answers) others many h = absurd cc
  tells-behind old new (step ∷ steps) later [] others many h = absurd cc
  tells-behind old new (step ∷ steps) later (answer ∷ answers) others many h =
      tells-behind h.0 new steps later answers others (omega (arith, many)) h.2

-- so it is in fair transcripts, from a session's watch on
pub fair-follows : (formats : Formats) (files : List MountedFile) (sessions : ℕ) (procs : ℕ → KeyMap)
    (history : List Commit) (steps : List (List (List Step))) (replies : List (List (List Reply)))
    → IsFair formats files sessions procs history steps replies → (i : ℕ) → i < sessions
    → (before later : List Step) (answers others : List Reply) (parent : Name) (room front : ℕ)
    → length before ≡ length answers
    → of_session i steps ≡ before ++ Watch parent room ∷ later
    → of_session i replies ≡ answers ++ reply.Watching front ∷ others
    → AllByRecursion (λ answer. begins_watch answer ≡ false) others
    → (last : Session) × Follows history (record { parent = parent; room = room; from = front }) others last
fair-follows formats files sessions procs history steps replies fair i lt before later answers others parent room front many steps_are replies_are none =
    let told = fair-flat formats files sessions procs history steps replies fair i lt in
    let split = subst (λ (s : List Step). Tells formats files (procs (i + 1)) (i + 1) history first_session s (answers ++ reply.Watching front ∷ others) told.0) steps_are
    (subst (λ (r : List Reply). Tells formats files (procs (i + 1)) (i + 1) history first_session (of_session i steps) r told.0) replies_are told.1) in
    let behind = tells-behind formats files (procs (i + 1)) (i + 1) history first_session told.0 before (Watch parent room ∷ later) answers (reply.Watching front ∷ others) many split in
    (told.0, watched-follows formats files (procs (i + 1)) (i + 1) history parent room front behind.0 told.0 later others behind.1 none)
