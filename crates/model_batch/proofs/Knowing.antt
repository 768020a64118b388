-- A session that knows of fewer commits takes the same steps with the same replies. So what the phases before made can
-- be left out, and all steps of a session are one list. And phases one behind the other, while the history goes on.
use Rattle.std.proofs.Common.{◌≡◌, ◌⊎◌, inl, inr, ℕ, ◌+◌, ◌<◌, ◌≤◌, List, [], ◌∷◌, ◌++◌, length, Result, Ok, Err, refl, sym, ap, subst, append-nil, append_assoc, arith}
use Rattle.std.specs.FinMap as map
use mathlib.Core.List.{IsPrefix}
use Rattle.batch_script.specs.declared.steps.Step.{Step}
use Rattle.batch_script.specs.declared.steps.Step.TheVariants.{Get, Put, MetaStep, Del, Cut, Look, Set, Merge, Watch, Poll, Undo}
use Rattle.key_edits.specs.Edits.{put_meta, put_value}
use Rattle.key_merge.specs.declared.strategies.Strategy.{Strategy}
use Rattle.kdb_handle.specs.Opened.{store_at}
use Rattle.kdb_handle.specs.Remaking.{AreTries, IsCutBy, IsTryBy}
use Rattle.kdb_handle.specs.declared.merging.MergeEnd.{MergeEnd}
use Rattle.kdb_handle.specs.declared.merging.MergeEnd.TheVariants as merge_end
use Rattle.kdb_handle.specs.declared.merging.Tried.{Tried}
use Rattle.kdb_handle.specs.declared.replies.Reply.{Reply}
use Rattle.kdb_handle.specs.declared.replies.Reply.TheVariants as reply
use Rattle.kdb_handle.specs.declared.setting.SetFault.{SetFault}
use Rattle.kdb_handle.specs.declared.setting.SetFault.TheVariants as set_fault
use Rattle.kdb_handle.specs.declared.undoing.UndoFault.TheVariants as undo_fault
use Rattle.model_batch.specs.Fair.{IsFair, TellsPhases, count_told, in_row, of_session}
use Rattle.model_batch.specs.Merges.{EndsSo, Merges, Retries, SetsSo}
use Rattle.model_batch.specs.Replies.{set_reply, stored_reply}
use Rattle.model_batch.specs.Sessions.{Session, first_session}
use Rattle.model_batch.specs.Sets.{IsJudgedThen, Lacks, MeansSet, told_then}
use Rattle.model_batch.specs.Steps.{Edits, Means}
use Rattle.model_batch.specs.Told.{Tells, TellsPhase, knowing}
use Rattle.model_batch.specs.Undos.{undo_told}
use Rattle.model_batch.proofs.Telling.{tells-append, tells-more}
use Rattle.model_history.specs.History.{Commit}
use Rattle.model_maps.specs.KeyMap.{KeyMap, not_below}
use Rattle.model_names.specs.Name.{Name}
use Rattle.model_store.specs.Store.{Formats, Store, points_of}
use Rattle.mounted_files.specs.declared.files.MountedFile.{MountedFile}
use Rattle.mounted_files.specs.declared.refusals.GetFault.TheVariants as get_fault
use Rattle.store_core.specs.declared.committing.CommitFault.{CommitFault}
use Rattle.store_core.specs.declared.committing.CommitFault.TheVariants.{Conflict, FileTooLarge, Invalid, DatabaseFull, HistoryFull, DiskFault, Memory}
use Rattle.store_core.specs.declared.committing.Done.{Done}
use Rattle.store_core.specs.declared.committing.Done.TheVariants.{Committed, Same}
use Rattle.store_verdict.specs.declared.faults.PrepareFault.TheVariants as early_fault

-- something leads from a session to another, and behind it no more commits are known than to that one
abbrev LeadsBelow : (Session → Type 0) → Session → Type 0
LeadsBelow Leads new = (next : ℕ) × (next ≤ new.told) × Leads (knowing next new)

-- ---- a step

lacks-below : (memory answer : Reply) (old new : Session) (told : ℕ) → told ≤ old.told → Lacks memory old answer new
    → LeadsBelow (Lacks memory (knowing told old) answer) new
lacks-below memory answer old new told le h =
    (told, omega (arith, le, ap (λ (s : Session). s.told) h.new_is), record { reply_is = h.reply_is; new_is = ap (knowing told) h.new_is })

edits-below : (edited : KeyMap) (answer : Reply) (old new : Session) (told : ℕ) → told ≤ old.told
    → Edits edited old answer new ⊎ Lacks reply.Memory old answer new
    → LeadsBelow (λ s. Edits edited (knowing told old) answer s ⊎ Lacks reply.Memory (knowing told old) answer s) new
edits-below edited answer old new told le (inl h) =
    (told, omega (arith, le, ap (λ (s : Session). s.told) h.new_is), inl (record { reply_is = h.reply_is; new_is = ap (knowing told) h.new_is }))
edits-below edited answer old new told le (inr h) =
    let one = lacks-below reply.Memory answer old new told le h in (one.0, one.1, inr one.2)

told-below : (low high : ℕ) (result : Result Done CommitFault) → low ≤ high
    → told_then result low ≤ told_then result high
told-below low high (Ok (Committed n aside)) le = omega arith
told-below low high (Ok (Same front aside)) le = omega arith
told-below low high (Err (Conflict mount by front)) le = omega arith
told-below low high (Err (FileTooLarge mount bytes front)) le = omega arith
told-below low high (Err (Invalid violation front)) le = omega arith
told-below low high (Err (DatabaseFull weight front)) le = omega arith
told-below low high (Err (HistoryFull weight front)) le = omega arith
told-below low high (Err (DiskFault front)) le = omega arith
told-below low high (Err Memory) le = le

module _ (formats : Formats) (store : Store) (number : ℕ) (history : List Commit) (parent : Name) (keys : KeyMap) where
  judged-below : (answer : Reply) (old new : Session) (told : ℕ) → told ≤ old.told
      → IsJudgedThen formats store number history parent keys old answer new
      → LeadsBelow (IsJudgedThen formats store number history parent keys (knowing told old) answer) new
  judged-below answer old new told le h = (
    told_then h.result told,
    omega (arith, told-below told old.told h.result le, ap (λ (s : Session). s.told) h.new_is),
    record {
      past = h.past;
      no_less = omega (arith, le, h.no_less);
      result = h.result;
      known = h.known;
      early = h.early;
      judged = h.judged;
      stands = h.stands;
      reply_is = h.reply_is;
      new_is = ap (knowing (told_then h.result told)) h.new_is;
    },
  )

  sets-below : (answer : Reply) (old new : Session) (told : ℕ) → told ≤ old.told
      → MeansSet formats store number history parent keys old answer new
      → LeadsBelow (MeansSet formats store number history parent keys (knowing told old) answer) new
  sets-below answer old new told le (inl h) =
      let one = judged-below answer old new told le h in (one.0, one.1, inl one.2)
  sets-below answer old new told le (inr (inl h)) =
      (told, omega (arith, le, ap (λ (s : Session). s.told) h.new_is), inr (inl (record { why = h.why; refused = h.refused; reply_is = h.reply_is; new_is = ap (knowing told) h.new_is })))
  sets-below answer old new told le (inr (inr (inl h))) =
      let one = lacks-below (reply.SetRefused (set_fault.Commit Memory)) answer old new told le h in (one.0, one.1, inr (inr (inl one.2)))
  sets-below answer old new told le (inr (inr (inr (inl h)))) =
      let one = lacks-below (reply.SetRefused (set_fault.Prepare early_fault.Memory)) answer old new told le h in (one.0, one.1, inr (inr (inr (inl one.2))))
  sets-below answer old new told le (inr (inr (inr (inr h)))) =
      let one = lacks-below reply.Memory answer old new told le h in (one.0, one.1, inr (inr (inr (inr one.2))))

-- the tries of a merged set, and its end
module _ (formats : Formats) (files : List MountedFile) (number : ℕ) (history : List Commit) (parent : Name) (strategy : Strategy) where
  abbrev Retry : Session → KeyMap → Tried → Session → KeyMap → KeyMap → Type 0
  Retry = Retries formats files number history parent

  abbrev Try : Session → KeyMap → Tried → Session → KeyMap → Type 0
  Try = IsTryBy Retry (points_of (store_at files)) parent strategy

  retry-below : (old new : Session) (ours : KeyMap) (item : Tried) (base theirs : KeyMap) (told : ℕ) → told ≤ old.told
      → Retry old ours item new base theirs
      → LeadsBelow (λ s. Retry (knowing told old) ours item s base theirs) new
  retry-below old new ours item base theirs told le h =
      let first = judged-below formats (store_at files) number history parent ours (set_reply (Err (Conflict item.mount item.by item.front))) old h.mid told le h.conflict in (
        length h.past,
        omega (arith, ap (λ (s : Session). s.told) h.new_is),
        record {
          mid = knowing first.0 h.mid;
          conflict = first.2;
          base_is = h.base_is;
          past = h.past;
          begins = h.begins;
          no_less = omega (arith, first.1, h.no_less);
          good = h.good;
          again = h.again;
          theirs_is = h.theirs_is;
          new_is = ap (knowing (length h.past)) h.new_is;
        },
      )

  tries-below : (old new : Session) (ours last : KeyMap) (items : List Tried) (told : ℕ) → told ≤ old.told
      → AreTries Try old ours items new last
      → LeadsBelow (λ s. AreTries Try (knowing told old) ours items s last) new
  tries-below old new ours last [] told le h =
      (told, omega (arith, le, ap (λ (s : Session). s.told) h.0), (ap (knowing told) h.0, h.1))
  tries-below old new ours last (item ∷ items) told le h =
      let is_try = h.is_try in
      let one = retry-below old h.mid ours item is_try.base is_try.theirs told le is_try.retry in
      let rest = tries-below h.mid new h.next last items one.0 one.1 h.rest in (
        rest.0,
        rest.1,
        record {
          mid = knowing one.0 h.mid;
          next = h.next;
          is_try = record { base = is_try.base; theirs = is_try.theirs; retry = one.2; remade = is_try.remade };
          rest = rest.2;
        },
      )

  module _ (tries : ℕ) (last new : Session) (keys : KeyMap) (made tried : List Tried) (told : ℕ) (le : told ≤ last.told) where
    abbrev End : Session → Session → Result Done MergeEnd → Type 0
    End from to end = EndsSo formats files number history parent strategy tries from keys made to tried end

    set-below : (result : Result Done SetFault) → SetsSo formats files number history parent last new keys result
        → LeadsBelow (λ s. SetsSo formats files number history parent (knowing told last) s keys result) new
    set-below result h =
        sets-below formats (store_at files) number history parent keys (stored_reply result) last new told le h

    cut-below : (Unmade : KeyMap → KeyMap → Type 0) → IsCutBy Retry last keys made new tried Unmade
        → LeadsBelow (λ s. IsCutBy Retry (knowing told last) keys made s tried Unmade) new
    cut-below Unmade h =
        let one = retry-below last new keys h.item h.base h.theirs told le h.retry in
        (one.0, one.1, record { item = h.item; tried_is = h.tried_is; base = h.base; theirs = h.theirs; retry = one.2; unmade = h.unmade })

    end-below : (end : Result Done MergeEnd) → End last new end → LeadsBelow (λ s. End (knowing told last) s end) new
    end-below (Ok done) h = let one = set-below (Ok done) h.1 in (one.0, one.1, (h.0, one.2))
    end-below (Err (merge_end.TriesSpent mount by front)) h =
        let one = set-below (Err (set_fault.Commit (Conflict mount by front))) h.1 in (one.0, one.1, (h.0, one.2, h.2))
    end-below (Err (merge_end.Set why)) h = let one = set-below (Err why) h.1 in (one.0, one.1, (h.0, one.2, h.2))
    end-below (Err (merge_end.MergeConflicts names)) h = cut-below _ h
    end-below (Err merge_end.Memory) (inl idle) =
        (told, omega (arith, le, ap (λ (s : Session). s.told) idle.1), inl (idle.0, ap (knowing told) idle.1))
    end-below (Err merge_end.Memory) (inr cut) = let one = cut-below _ cut in (one.0, one.1, inr one.2)

  merges-below : (tries : ℕ) (answer : Reply) (old new : Session) (told : ℕ) → told ≤ old.told
      → Merges formats files number history parent strategy tries old answer new
      → LeadsBelow (Merges formats files number history parent strategy tries (knowing told old) answer) new
  merges-below tries answer old new told le h =
      let merged = h.merged in
      let way = tries-below old merged.last old.working merged.keys merged.made told le merged.retries in
      let end = end-below tries merged.last h.after merged.keys merged.made h.tried way.0 way.1 h.end merged.ends in (
        end.0,
        omega (arith, end.1, ap (λ (s : Session). s.told) h.new_is),
        record {
          tried = h.tried;
          end = h.end;
          after = knowing end.0 h.after;
          keys = h.keys;
          merged = record { made = merged.made; last = knowing way.0 merged.last; keys = merged.keys; retries = way.2; fewer = merged.fewer; ends = end.2; after_is = merged.after_is };
          reply_is = h.reply_is;
          new_is = ap (knowing end.0) h.new_is;
        },
      )

module _ (formats : Formats) (files : List MountedFile) (procs : KeyMap) (number : ℕ) (history : List Commit) where
  means-below : (old new : Session) (step : Step) (answer : Reply) (told : ℕ) → told ≤ old.told
      → Means formats files procs number history old step answer new
      → LeadsBelow (Means formats files procs number history (knowing told old) step answer) new
  means-below old new (Get parent) answer told le (inl h) = (
    length h.past,
    omega (arith, ap (λ (s : Session). s.told) h.new_is),
    inl (record { past = h.past; begins = h.begins; no_less = omega (arith, le, h.no_less); good = h.good; reply_is = h.reply_is; new_is = ap (knowing (length h.past)) h.new_is }),
  )
  means-below old new (Get parent) answer told le (inr (inl h)) =
      (told, omega (arith, le, ap (λ (s : Session). s.told) h.new_is), inr (inl (record { mount = h.mount; why = h.why; bad = h.bad; cause = h.cause; reply_is = h.reply_is; new_is = ap (knowing told) h.new_is })))
  means-below old new (Get parent) answer told le (inr (inr (inl h))) =
      let one = lacks-below (reply.GetRefused get_fault.Memory) answer old new told le h in (one.0, one.1, inr (inr (inl one.2)))
  means-below old new (Get parent) answer told le (inr (inr (inr h))) =
      let one = lacks-below reply.Memory answer old new told le h in (one.0, one.1, inr (inr (inr one.2)))
  means-below old new (Put name value) answer told le h =
      edits-below (put_value old.working name value) answer old new told le h
  means-below old new (MetaStep name meta value) answer told le h =
      edits-below (put_meta old.working name meta value) answer old new told le h
  means-below old new (Del name) answer told le h = edits-below (map.remove old.working name) answer old new told le h
  means-below old new (Cut name) answer told le h = edits-below (not_below name old.working) answer old new told le h
  means-below old new (Look name) answer told le (inl h) =
      (told, omega (arith, le, ap (λ (s : Session). s.told) h.new_is), inl (record { reply_is = h.reply_is; new_is = ap (knowing told) h.new_is }))
  means-below old new (Look name) answer told le (inr h) =
      let one = lacks-below reply.Memory answer old new told le h in (one.0, one.1, inr one.2)
  means-below old new (Set parent) answer told le h =
      sets-below formats (store_at files) number history parent old.working answer old new told le h
  means-below old new (Merge parent strategy tries) answer told le (inl h) =
      let one = merges-below formats files number history parent strategy tries answer old new told le h in (one.0, one.1, inl one.2)
  means-below old new (Merge parent strategy tries) answer told le (inr h) =
      let one = lacks-below reply.Memory answer old new told le h in (one.0, one.1, inr one.2)
  means-below old new (Watch parent room) answer told le (inl h) = (
    length h.past,
    omega (arith, ap (λ (s : Session). s.told) h.new_is),
    inl (record { past = h.past; begins = h.begins; no_less = omega (arith, le, h.no_less); reply_is = h.reply_is; new_is = ap (knowing (length h.past)) h.new_is }),
  )
  means-below old new (Watch parent room) answer told le (inr h) =
      let one = lacks-below reply.Memory answer old new told le h in (one.0, one.1, inr one.2)
  means-below old new Poll answer told le (inl h) =
      (told, omega (arith, le, ap (λ (s : Session). s.told) h.new_is), inl (record { none = h.none; reply_is = h.reply_is; new_is = ap (knowing told) h.new_is }))
  means-below old new Poll answer told le (inr (inl h)) = (
    length h.past,
    omega (arith, ap (λ (s : Session). s.told) h.new_is),
    inr (inl (record {
      watched = h.watched;
      is_watched = h.is_watched;
      past = h.past;
      begins = h.begins;
      no_less = omega (arith, le, h.no_less);
      reply_is = h.reply_is;
      new_is = ap (knowing (length h.past)) h.new_is;
    })),
  )
  means-below old new Poll answer told le (inr (inr h)) =
      let one = lacks-below reply.Memory answer old new told le h in (one.0, one.1, inr (inr one.2))
  means-below old new (Undo undone) answer told le (inl h) = (
    undo_told (length h.past) h.result,
    omega (arith, ap (λ (s : Session). s.told) h.new_is),
    inl (record {
      past = h.past;
      no_less = omega (arith, le, h.no_less);
      result = h.result;
      known = h.known;
      rec = h.rec;
      keys = h.keys;
      done = h.done;
      stands = h.stands;
      reply_is = h.reply_is;
      new_is = ap (knowing (undo_told (length h.past) h.result)) h.new_is;
    }),
  )
  means-below old new (Undo undone) answer told le (inr (inl h)) =
      let one = lacks-below (reply.UndoRefused undo_fault.Memory) answer old new told le h in (one.0, one.1, inr (inl one.2))
  means-below old new (Undo undone) answer told le (inr (inr h)) =
      let one = lacks-below reply.Memory answer old new told le h in (one.0, one.1, inr (inr one.2))

  -- ---- step by step, and phase by phase

  tells-below : (old new : Session) (steps : List Step) (answers : List Reply) (told : ℕ) → told ≤ old.told
      → Tells formats files procs number history old steps answers new
      → LeadsBelow (Tells formats files procs number history (knowing told old) steps answers) new
  tells-below old new [] [] told le h = (told, omega (arith, le, ap (λ (s : Session). s.told) h), ap (knowing told) h)
  tells-below old new [] (answer ∷ answers) told le h = absurd h
  tells-below old new (step ∷ steps) [] told le h = absurd h
  tells-below old new (step ∷ steps) (answer ∷ answers) told le h =
      let one = means-below old h.0 step answer told le h.1 in
      let rest = tells-below h.0 new steps answers one.0 one.1 h.2 in
      (rest.0, rest.1, (knowing one.0 h.0, one.2, rest.2))

  module _ (sessions i : ℕ) where
    abbrev Phases : Session → List (List (List Reply)) → List (List (List Step)) → List (List (List Reply)) → Session → Type 0
    Phases old before steps replies new =
        TellsPhases formats files procs number history sessions i old before steps replies new

    -- all steps of a session, where it doesn't ask what the phases before made
    phases-flat : (old new : Session) (before : List (List (List Reply))) (steps : List (List (List Step)))
        (replies : List (List (List Reply))) (told : ℕ) → told ≤ old.told → Phases old before steps replies new
        → LeadsBelow (Tells formats files procs number history (knowing told old) (of_session i steps) (of_session i replies)) new
    phases-flat old new before [] [] told le h =
        (told, omega (arith, le, ap (λ (s : Session). s.told) h), ap (knowing told) h)
    phases-flat old new before [] (row ∷ replies) told le h = absurd h
    phases-flat old new before (made ∷ steps) [] told le h = absurd h
    phases-flat old new before (made ∷ steps) (row ∷ replies) told le h =
        let one = tells-below (knowing h.told old) h.mid (in_row i made) (in_row i row) told (omega (arith, le, h.no_less)) h.tells in
        let rest = phases-flat h.mid new (before ++ row ∷ []) steps replies one.0 one.1 h.rest in (
          rest.0,
          rest.1,
          tells-append formats files procs number history (knowing told old) (knowing one.0 h.mid) (knowing rest.0 new) (in_row i made) (of_session i steps) (in_row i row) (of_session i replies) one.2 rest.2,
        )

    -- one phase more
    pub phases-next : (old mid new : Session) (before : List (List (List Reply))) (steps : List (List (List Step)))
        (replies : List (List (List Reply))) (made : List (List Step)) (row : List (List Reply))
        → Phases old before steps replies mid
        → TellsPhase formats files procs number history (count_told sessions (before ++ replies)) mid (in_row i made) (in_row i row) (λ last. new ≡ last)
        → Phases old before (steps ++ made ∷ []) (replies ++ row ∷ []) new
    phases-next old mid new before [] [] made row h phase =
        subst (λ (s : Session). Phases s before (made ∷ []) (row ∷ []) new) h
        (subst (λ (rows : List (List (List Reply))). TellsPhase formats files procs number history (count_told sessions rows) mid (in_row i made) (in_row i row) (λ last. new ≡ last)) (append-nil before) phase)
    phases-next old mid new before [] (first ∷ replies) made row h phase = absurd h
    phases-next old mid new before (one ∷ steps) [] made row h phase = absurd h
    phases-next old mid new before (one ∷ steps) (first ∷ replies) made row h phase =
        let behind =
        subst (λ (rows : List (List (List Reply))). TellsPhase formats files procs number history (count_told sessions rows) mid (in_row i made) (in_row i row) (λ last. new ≡ last))
        (sym (append_assoc before (first ∷ []) replies)) phase in
        record {
          told = h.told;
          no_less = h.no_less;
          knows = h.knows;
          mid = h.mid;
          tells = h.tells;
          rest = phases-next h.mid mid new (before ++ first ∷ []) steps replies made row h.rest behind;
        }

-- while the history goes on
pub phases-more : (formats : Formats) (files : List MountedFile) (procs : KeyMap) (number : ℕ)
    (history longer : List Commit) (sessions i : ℕ) (old new : Session) (before : List (List (List Reply)))
    (steps : List (List (List Step)))
    (replies : List (List (List Reply))) → IsPrefix history longer → TellsPhases formats files procs number history sessions i old before steps replies new
    → TellsPhases formats files procs number longer sessions i old before steps replies new
phases-more formats files procs number history longer sessions i old new before [] [] p h = h
phases-more formats files procs number history longer sessions i old new before [] (row ∷ replies) p h = absurd h
phases-more formats files procs number history longer sessions i old new before (made ∷ steps) [] p h = absurd h
phases-more formats files procs number history longer sessions i old new before (made ∷ steps) (row ∷ replies) p h = record {
  told = h.told;
  no_less = h.no_less;
  knows = h.knows;
  mid = h.mid;
  tells = tells-more formats files procs number history longer (knowing h.told old) h.mid (in_row i made) (in_row i row) p h.tells;
  rest = phases-more formats files procs number history longer sessions i h.mid new (before ++ row ∷ []) steps replies p h.rest;
}

-- in fair transcripts
pub fair-flat : (formats : Formats) (files : List MountedFile) (sessions : ℕ) (procs : ℕ → KeyMap)
    (history : List Commit) (steps : List (List (List Step))) (replies : List (List (List Reply)))
    → IsFair formats files sessions procs history steps replies → (i : ℕ) → i < sessions
    → (last : Session)
    × Tells formats files (procs (i + 1)) (i + 1) history first_session (of_session i steps) (of_session i replies) last
fair-flat formats files sessions procs history steps replies fair i lt =
    let told = fair.tells i lt in
    let flat = phases-flat formats files (procs (i + 1)) (i + 1) history sessions i first_session told.0 [] steps replies 0 (omega arith) told.1 in
    (knowing flat.0 told.0, flat.2)
