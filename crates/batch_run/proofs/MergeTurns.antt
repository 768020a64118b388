-- A merged set: each try of the handle is one of its session, and so is the end. The working set stays on the way, and
-- the keys that are tried go beside it.
use Rattle.std.proofs.Common.{◌≡◌, inl, inr, ℕ, ◌≤◌, List, [], ◌∷◌, length, Option, None, Result, Ok, Err, refl, sym, ap, subst, ◌∙◌, append-nil, arith}
use mathlib.Core.List.{IsPrefix}
use Rattle.batch_script.specs.declared.steps.Step.TheVariants.{Merge}
use Rattle.key_merge.specs.declared.strategies.Strategy.{Strategy}
use Rattle.kdb_handle.specs.Gets.{Gives}
use Rattle.kdb_handle.specs.Handles.{HandleValue}
use Rattle.kdb_handle.specs.Merging.{IsEnd, IsMergedSet, IsRetry, IsTry, end_of, tried_in}
use Rattle.kdb_handle.specs.Opened.{store_at}
use Rattle.kdb_handle.specs.Remaking.{AreTries, IsCutBy, IsEndBy, IsTryBy}
use Rattle.kdb_handle.specs.Sets.{IsSet, IsStored}
use Rattle.kdb_handle.specs.Stores.{IsHandle}
use Rattle.kdb_handle.specs.Story.{Told, maker_of, commits_of}
use Rattle.kdb_handle.specs.declared.merging.MergeEnd.{MergeEnd}
use Rattle.kdb_handle.specs.declared.merging.MergeEnd.TheVariants as merge_end
use Rattle.kdb_handle.specs.declared.merging.MergeFault.{MergeFault}
use Rattle.kdb_handle.specs.declared.merging.Merging.{Merging}
use Rattle.kdb_handle.specs.declared.merging.Tried.{Tried}
use Rattle.kdb_handle.specs.declared.replies.Reply.{Reply}
use Rattle.kdb_handle.specs.declared.replies.Reply.TheVariants as reply
use Rattle.kdb_handle.specs.declared.setting.SetFault.{SetFault}
use Rattle.kdb_handle.specs.declared.setting.SetFault.TheVariants as set_fault
use Rattle.kdb_handle.proofs.StoryLemmas.{commits-prefix}
use Rattle.model_batch.specs.Merges.{Retries, SetsSo, Stays}
use Rattle.model_batch.specs.Replies.{merge_reply, set_reply}
use Rattle.model_batch.specs.Sessions.{Session, Watching}
use Rattle.model_batch.specs.Sets.{IsJudgedThen, MeansSet, told_then}
use Rattle.model_batch.specs.Steps.{Means}
use Rattle.model_batch.proofs.Telling.{judged-more}
use Rattle.model_history.specs.History.{Commit}
use Rattle.model_maps.specs.KeyMap.{KeyMap}
use Rattle.model_names.specs.Name.{Name}
use Rattle.model_store.specs.Store.{Formats, points_of, store_of}
use Rattle.mounted_files.specs.declared.files.MountedFile.{MountedFile}
use Rattle.seat_lock.specs.Known.{Place}
use Rattle.seat_lock.specs.Story.{made_by}
use Rattle.seat_lock.proofs.Prefixes.{prefix-self, prefix-trans}
use Rattle.batch_run.specs.Stepping.{GoesOn, Held, IsReady, held, session_of}
use Rattle.batch_run.specs.declared.workspaces.Workspace.{Workspace}
use Rattle.batch_run.proofs.CommitNumbers.{IsSince, longer-commits, since-self, since-trans}
use Rattle.batch_run.proofs.GetTurns.{session_with}
use Rattle.batch_run.proofs.Joining.{goes-keys}
use Rattle.batch_run.proofs.SetTurns.{Makes, judged-then, silent-makes, stored-makes, stored-means, stored-seen, unprepared-means, within}
use Rattle.store_core.specs.declared.committing.CommitFault.{CommitFault}
use Rattle.store_core.specs.declared.committing.CommitFault.TheVariants.{Conflict}
use Rattle.store_core.specs.declared.committing.Done.{Done}
use Rattle.store_core.specs.declared.cores.Plan.{Plan}
use Rattle.store_verdict.specs.RecordView.{proc_of, record_of}

-- some keys, where nothing is watched
abbrev with-keys : KeyMap → Held
with-keys keys = record { working = keys; watching = None }

module _ (formats : Formats) (files : List MountedFile) (parent : Name) (strategy : Strategy) where
  abbrev points : List Name
  points = points_of (store_at files)

  -- ---- what the handle made on the way: nothing

  retry-since : (old : HandleValue) (ours : KeyMap) (item : Tried) (new : HandleValue) (base theirs : KeyMap)
      → IsRetry formats files parent old ours item new base theirs → IsSince old new
  retry-since old ours item new base theirs retry = record {
    number = retry.number ∙ retry.numbered;
    seen = prefix-trans old.seen retry.between.seen new.seen (stored-seen formats files parent ours (with-keys ours) old retry.between (Err (Conflict item.mount item.by item.front)) retry.stored) retry.seen;
    own = retry.own ∙ retry.stored.done.gains ∙ append-nil old.own;
  }

  tries-since : (old : HandleValue) (ours : KeyMap) (items : List Tried) (new : HandleValue) (keys : KeyMap)
      → AreTries (IsTry formats files parent strategy) old ours items new keys → IsSince old new
  tries-since old ours [] new keys same = subst (IsSince old) (sym same.0) (since-self old)
  tries-since old ours (item ∷ items) new keys leads =
      since-trans old leads.mid new (retry-since old ours item leads.mid leads.is_try.base leads.is_try.theirs leads.is_try.retry) (tries-since leads.mid leads.next items new keys leads.rest)

  module _ (tries : ℕ) (last new : HandleValue) (keys : KeyMap) (made tried : List Tried) where
    cut-since : (Unmade : KeyMap → KeyMap → Type 0)
        → IsCutBy (IsRetry formats files parent) last keys made new tried Unmade → IsSince last new
    cut-since Unmade cut = retry-since last keys cut.item new cut.base cut.theirs cut.retry

    -- the end has seen more, too
    end-seen : (end : Result Done MergeEnd) → IsEnd formats files parent strategy tries last keys made new tried end
        → IsPrefix last.seen new.seen
    end-seen (Ok done) h = stored-seen formats files parent keys (with-keys keys) last new (Ok done) h.1
    end-seen (Err (merge_end.TriesSpent mount by front)) h =
        stored-seen formats files parent keys (with-keys keys) last new (Err (Conflict mount by front)) h.1
    end-seen (Err (merge_end.Set (set_fault.Commit why))) h =
        stored-seen formats files parent keys (with-keys keys) last new (Err why) h.1
    end-seen (Err (merge_end.Set (set_fault.Prepare why))) h =
        subst (λ (handle : HandleValue). IsPrefix last.seen handle.seen) (sym h.1.0) (prefix-self last.seen)
    end-seen (Err (merge_end.MergeConflicts names)) h = (cut-since _ h).seen
    end-seen (Err merge_end.Memory) (inl idle) = idle.1.seen
    end-seen (Err merge_end.Memory) (inr cut) = (cut-since _ cut).seen

    -- and only a set at the end makes something, which the reply tells
    end-makes : (first : HandleValue) (end : Result Done MergeEnd)
        → first.own ≡ made_by maker_of first.number first.seen → new.own ≡ made_by maker_of new.number new.seen
        → new.number ≡ first.number → IsSince first last
        → IsEnd formats files parent strategy tries last keys made new tried end
        → Makes first new (merge_reply tried end)
    end-makes first (Ok done) was is number since h =
        let makes = stored-makes formats files parent keys (with-keys keys) last new (Ok done) h.1 first was since in
        record { numbers = makes.numbers; failures = makes.failures; refusals = makes.refusals }
    end-makes first (Err (merge_end.TriesSpent mount by front)) was is number since h =
        let makes = stored-makes formats files parent keys (with-keys keys) last new (Err (Conflict mount by front)) h.1 first was since in
        record { numbers = makes.numbers; failures = makes.failures; refusals = makes.refusals }
    end-makes first (Err (merge_end.Set (set_fault.Commit why))) was is number since h =
        let makes = stored-makes formats files parent keys (with-keys keys) last new (Err why) h.1 first was since in
        record { numbers = makes.numbers; failures = makes.failures; refusals = makes.refusals }
    end-makes first (Err (merge_end.Set (set_fault.Prepare why))) was is number since h =
        silent-makes first new _ was is (subst (IsSince first) (sym h.1.0) since) (record { numbers = refl; failures = refl; refusals = refl })
    end-makes first (Err (merge_end.MergeConflicts names)) was is number since h =
        silent-makes first new _ was is (since-trans first last new since (cut-since _ h)) (record { numbers = refl; failures = refl; refusals = refl })
    end-makes first (Err merge_end.Memory) was is number since (inl idle) =
        let seen = prefix-trans first.seen last.seen new.seen since.seen idle.1.seen in
        silent-makes first new _ was is (record { number = number; seen = seen; own = idle.1.own ∙ since.own }) (record { numbers = refl; failures = refl; refusals = refl })
    end-makes first (Err merge_end.Memory) was is number since (inr cut) =
        silent-makes first new _ was is (since-trans first last new since (cut-since _ cut)) (record { numbers = refl; failures = refl; refusals = refl })

  -- ---- what the session does on the way

  module _ (working : Held) (number : ℕ) (history : List Commit) where
    abbrev Retry : Session → KeyMap → Tried → Session → KeyMap → KeyMap → Type 0
    Retry = Retries formats files number history parent

    -- behind a try it was told of all that the get found
    retry-goes : (old : HandleValue) (ours : KeyMap) (item : Tried) (new : HandleValue) (base theirs : KeyMap)
        (told : ℕ) → old.number ≡ number → told ≤ length (commits_of old.seen) → IsPrefix (commits_of new.seen) history
        → IsRetry formats files parent old ours item new base theirs
        → Retry (session_of old working told) ours item (session_of new working (length (commits_of new.seen))) base theirs
    retry-goes old ours item new base theirs told numbered le begins retry =
        let between = retry.between in
        let answer : Result Done CommitFault = Err (Conflict item.mount item.by item.front) in
        let gives : Gives (store_of files (λ n. proc_of between.rec)) (commits_of new.seen) between.number parent (record_of between.rec) (record_of new.rec) retry.got = retry.is_got (λ n. proc_of between.rec) refl in
        let met = judged-then formats files parent ours working old between answer retry.stored told le (λ e. absurd cc) in
        let far = prefix-trans (commits_of between.seen) (commits_of new.seen) history (commits-prefix between.seen new.seen retry.seen) begins in
        let so_far : item.front ≤ length (commits_of between.seen) = within formats files parent ours working old between answer retry.stored told le in
        record {
          mid = session_of between working item.front;
          conflict =
              subst (λ (n : ℕ). IsJudgedThen formats (store_at files) n history parent ours (session_of old working told) (set_reply answer) (session_of between working item.front)) numbered
              (judged-more formats (store_at files) old.number (commits_of between.seen) history parent ours (session_of old working told) (session_of between working item.front) (set_reply answer) far met);
          base_is = retry.base_is;
          past = commits_of new.seen;
          begins = begins;
          no_less = omega (arith, so_far, longer-commits between.seen new.seen retry.seen);
          good = gives.good;
          again = retry.again ∙ gives.front;
          theirs_is = retry.theirs_is;
          new_is = ap (session_with (length (commits_of new.seen)) working) gives.kept;
        }

    tries-go : (old : HandleValue) (ours : KeyMap) (items : List Tried) (new : HandleValue) (keys : KeyMap) (told : ℕ)
        → old.number ≡ number → told ≤ length (commits_of old.seen) → IsPrefix (commits_of new.seen) history
        → AreTries (IsTry formats files parent strategy) old ours items new keys
        → (last : ℕ) × (last ≤ length (commits_of new.seen))
        × AreTries (IsTryBy Retry points parent strategy) (session_of old working told) ours items (session_of new working last) keys
    tries-go old ours [] new keys told numbered le begins same =
        (told, subst (λ (h : HandleValue). told ≤ length (commits_of h.seen)) (sym same.0) le, (ap (λ (h : HandleValue). session_of h working told) same.0, same.1))
    tries-go old ours (item ∷ items) new keys told numbered le begins leads =
        let mid = leads.mid in
        let is_try = leads.is_try in
        let retry = is_try.retry in
        let since = tries-since mid leads.next items new keys leads.rest in
        let so_far = prefix-trans (commits_of mid.seen) (commits_of new.seen) history (commits-prefix mid.seen new.seen since.seen) begins in
        let rest = tries-go mid leads.next items new keys (length (commits_of mid.seen)) (retry.number ∙ retry.numbered ∙ numbered) (omega arith) begins leads.rest in (
          rest.0,
          rest.1,
          record {
            mid = session_of mid working (length (commits_of mid.seen));
            next = leads.next;
            is_try = record { base = is_try.base; theirs = is_try.theirs; retry = retry-goes old ours item mid is_try.base is_try.theirs told numbered le so_far retry; remade = is_try.remade };
            rest = rest.2;
          },
        )

  module _ (working : Held) (number tries : ℕ) (last new : HandleValue) (keys : KeyMap) (made tried : List Tried) (told : ℕ) (numbered : last.number ≡ number) (le : told ≤ length (commits_of last.seen)) where
    abbrev present : List Commit
    present = commits_of new.seen

    -- a set at the end means what it does
    stored-ends : (result : Result Done CommitFault) → IsStored formats files last new parent keys result
        → (after : ℕ) × (after ≤ length present)
        × MeansSet formats (store_at files) number present parent keys (session_of last working told) (set_reply result) (session_of new working after)
    stored-ends result stored = (
      told_then result told,
      within formats files parent keys working last new result stored told le,
      subst (λ (n : ℕ). MeansSet formats (store_at files) n present parent keys (session_of last working told) (set_reply result) (session_of new working (told_then result told))) numbered
          (stored-means formats files parent keys working last new result stored told le),
    )

    set-ends : (result : Result Done SetFault) → IsSet formats files last new parent keys result
        → (after : ℕ) × (after ≤ length present)
        × SetsSo formats files number present parent (session_of last working told) (session_of new working after) keys result
    set-ends (Ok done) h = stored-ends (Ok done) h
    set-ends (Err (set_fault.Commit why)) h = stored-ends (Err why) h
    set-ends (Err (set_fault.Prepare why)) h =
        let answer : Reply = reply.SetRefused (set_fault.Prepare why) in
        let means = unprepared-means formats (store_at files) last.number present parent keys (session_of last working told) why h.1 in (
          told,
          subst (λ (handle : HandleValue). told ≤ length (commits_of handle.seen)) (sym h.0) le,
          subst (λ (n : ℕ). MeansSet formats (store_at files) n present parent keys (session_of last working told) answer (session_of new working told)) numbered
              (subst (λ (handle : HandleValue). MeansSet formats (store_at files) last.number present parent keys (session_of last working told) answer (session_of handle working told)) (sym h.0) means),
        )

    -- and a try without a merge is one of the session
    cut-ends : (Unmade : KeyMap → KeyMap → Type 0)
        → IsCutBy (IsRetry formats files parent) last keys made new tried Unmade
        → IsCutBy (Retries formats files number present parent) (session_of last working told) keys made (session_of new working (length present)) tried Unmade
    cut-ends Unmade cut = record {
      item = cut.item;
      tried_is = cut.tried_is;
      base = cut.base;
      theirs = cut.theirs;
      retry = retry-goes working number present last keys cut.item new cut.base cut.theirs told numbered le (prefix-self present) cut.retry;
      unmade = cut.unmade;
    }

    end-goes : (end : Result Done MergeEnd) → IsEnd formats files parent strategy tries last keys made new tried end
        → (after : ℕ) × (after ≤ length present)
        × IsEndBy (Retries formats files number present parent) (SetsSo formats files number present parent) Stays points parent strategy tries
        (session_of last working told) keys made (session_of new working after) tried end
    end-goes (Ok done) h = let set = set-ends (Ok done) h.1 in (set.0, set.1, (h.0, set.2))
    end-goes (Err (merge_end.TriesSpent mount by front)) h =
        let set = set-ends (Err (set_fault.Commit (Conflict mount by front))) h.1 in (set.0, set.1, (h.0, set.2, h.2))
    end-goes (Err (merge_end.Set why)) h = let set = set-ends (Err why) h.1 in (set.0, set.1, (h.0, set.2, h.2))
    end-goes (Err (merge_end.MergeConflicts names)) h = (length present, omega arith, cut-ends _ h)
    end-goes (Err merge_end.Memory) (inl idle) =
        (told, omega (arith, le, longer-commits last.seen new.seen idle.1.seen), inl (idle.0, ap (session_with told working) idle.1.kept))
    end-goes (Err merge_end.Memory) (inr cut) = (length present, omega arith, inr (cut-ends _ cut))

-- ---- the step

module _ (formats : Formats) {F : Type 0} (lock : Place Told) (plan : Plan F) (parent : Name) (strategy : Strategy) (tries : ℕ) (old new : HandleValue) (before : Workspace) (was : IsReady lock plan old before) (is : IsHandle lock plan new)
    (number : new.number ≡ old.number) (procs : proc_of new.rec ≡ proc_of old.rec) (after : KeyMap) where
  merge-goes : (tried : List Tried) (end : Result Done MergeEnd)
      → IsMergedSet formats plan.mounted parent strategy tries old before.keys new after tried end
      → GoesOn formats lock plan (Merge parent strategy tries ∷ []) (merge_reply tried end ∷ []) old before new (record before { keys = after })
  merge-goes tried end merged =
      goes-keys formats lock plan (Merge parent strategy tries) (merge_reply tried end) old new before after was is number procs (prefix-trans old.seen merged.last.seen new.seen since.seen seen) means makes.numbers makes.failures makes.refusals
    where
      since : IsSince old merged.last
      since =
          tries-since formats plan.mounted parent strategy old before.keys merged.made merged.last merged.keys merged.retries

      seen : IsPrefix merged.last.seen new.seen
      seen =
          end-seen formats plan.mounted parent strategy tries merged.last new merged.keys merged.made tried end merged.ends

      makes : Makes old new (merge_reply tried end)
      makes =
          end-makes formats plan.mounted parent strategy tries merged.last new merged.keys merged.made tried old end was.handle_is.own is.own number since merged.ends

      means : (told : ℕ) (watching : Option Watching) → told ≤ length (commits_of old.seen)
          → (later : ℕ) × (later ≤ length (commits_of new.seen))
          × Means formats plan.mounted (proc_of old.rec) old.number (commits_of new.seen) (session_of old (held before watching) told) (Merge parent strategy tries) (merge_reply tried end) (session_of new (record { working = after; watching = watching }) later)
      means told watching le =
          let made = tries-go formats plan.mounted parent strategy (held before watching) old.number (commits_of new.seen) old before.keys merged.made merged.last merged.keys told refl le (commits-prefix merged.last.seen new.seen seen) merged.retries in
          let ended = end-goes formats plan.mounted parent strategy (held before watching) old.number tries merged.last new merged.keys merged.made tried made.0 since.number made.1 end merged.ends in (
            ended.0,
            ended.1,
            inl (record {
              tried = tried;
              end = end;
              after = session_of new (held before watching) ended.0;
              keys = after;
              merged = record { made = merged.made; last = session_of merged.last (held before watching) made.0; keys = merged.keys; retries = made.2; fewer = merged.fewer; ends = ended.2; after_is = merged.after_is };
              reply_is = refl;
              new_is = refl;
            }),
          )

  pub merged-goes : (result : Result Merging MergeFault) (merging : Merging) → result ≡ Ok merging
      → IsMergedSet formats plan.mounted parent strategy tries old before.keys new after (tried_in result) (end_of result)
      → GoesOn formats lock plan (Merge parent strategy tries ∷ []) (reply.Merged merging ∷ []) old before new (record before { keys = after })
  merged-goes result merging e merged =
      merge-goes merging.tried (Ok merging.done) (subst (λ (r : Result Merging MergeFault). IsMergedSet formats plan.mounted parent strategy tries old before.keys new after (tried_in r) (end_of r)) e merged)

  pub unmerged-goes : (result : Result Merging MergeFault) (fault : MergeFault) → result ≡ Err fault
      → IsMergedSet formats plan.mounted parent strategy tries old before.keys new after (tried_in result) (end_of result)
      → GoesOn formats lock plan (Merge parent strategy tries ∷ []) (reply.MergeRefused fault ∷ []) old before new (record before { keys = after })
  unmerged-goes result fault e merged =
      merge-goes fault.tried (Err fault.end) (subst (λ (r : Result Merging MergeFault). IsMergedSet formats plan.mounted parent strategy tries old before.keys new after (tried_in r) (end_of r)) e merged)
