-- The commits in the way of a merged set have rising numbers: behind each get the fronts lie at or above the one
-- before.
use Rattle.std.proofs.Common.{◌≡◌, ◌⊎◌, inl, inr, ℕ, ◌<◌, ◌≤◌, List, [], ◌∷◌, ◌++◌, length, map as over, Some, Result, Ok, Err, refl, sym, ap, subst, ◌∙◌, append-nil, arith}
use Rattle.std.proofs.lemmas.List.{map-append}
use Rattle.key_merge.specs.declared.strategies.Strategy.{Strategy}
use Rattle.kdb_handle.specs.Gets.{Gives}
use Rattle.kdb_handle.specs.Handles.{HandleValue}
use Rattle.kdb_handle.specs.Merging.{IsCut, IsIdle, IsMergedSet, IsRetry, IsTry, Rise, in_the_way}
use Rattle.kdb_handle.specs.Opened.{store_at}
use Rattle.kdb_handle.specs.Remaking.{AreTries}
use Rattle.kdb_handle.specs.Sets.{IsStored}
use Rattle.kdb_handle.specs.Story.{Told, commits_of}
use Rattle.kdb_handle.specs.declared.merging.MergeEnd.{MergeEnd}
use Rattle.kdb_handle.specs.declared.merging.MergeEnd.TheVariants as merge_end
use Rattle.kdb_handle.specs.declared.merging.Tried.{Tried}
use Rattle.kdb_handle.proofs.BlockLemmas.{SeesTo, blocked_at, blocks-behind, sees-keeping}
use Rattle.kdb_handle.proofs.StoryLemmas.{commits-prefix}
use Rattle.model_history.specs.History.{Commit, replay}
use Rattle.model_maps.specs.KeyMap.{KeyMap}
use Rattle.model_names.specs.Name.{Name}
use Rattle.model_store.specs.Records.{Record}
use Rattle.model_store.specs.Sets.{Prepared as Set, front_in, wants}
use Rattle.model_store.specs.Store.{Formats, points_of, store_of}
use Rattle.model_store.specs.Verdicts as late
use Rattle.model_store.specs.Verdicts.{conflict}
use Rattle.model_store.proofs.VerdictLemmas.{is_blocked}
use Rattle.mounted_files.specs.declared.files.MountedFile.{MountedFile}
use Rattle.set_split.specs.Involved.{involved_in}
use Rattle.seat_lock.proofs.Prefixes.{prefix-length}
use Rattle.store_core.specs.declared.committing.CommitFault.TheVariants as commit_fault
use Rattle.store_core.specs.declared.committing.Done.{Done}
use Rattle.store_verdict.specs.PreparedView.{prepared_of}
use Rattle.store_verdict.specs.RecordView.{proc_of, record_of}

module _ (formats : Formats) (files : List MountedFile) (parent : Name) (strategy : Strategy) where
  abbrev involved : List ℕ
  involved = involved_in (points_of (store_at files)) parent

  -- the commit in the way lies behind the fronts, and the set found it
  met-behind : (first between : HandleValue) (ours : KeyMap) (mount : Name) (by front n : ℕ)
      → (stored : IsStored formats files first between parent ours (Err (commit_fault.Conflict mount by front)))
      → SeesTo involved n (record_of first.rec)
      → (n < by) × (by ≤ length (commits_of stored.done.found))
  met-behind first between ours mount by front n stored sees =
      let store = store_at files in
      let done = stored.done in
      let history : List Commit = commits_of done.found in
      let set : Set = prepared_of stored.set in
      let m : ℕ = done.judged.0 in
      let blocked : conflict store history set ≡ Some (late.Conflict m by) = is_blocked m by formats store history (replay store.start history) set done.judged.3 in
      blocks-behind store history set involved (record_of first.rec) m by n (ap (λ (s : Set). s.fronts) stored.made.is) sees (blocked_at store history set set.touched m by blocked)

  -- the get behind it sees so far
  seen-behind : (old : HandleValue) (ours : KeyMap) (item : Tried) (new : HandleValue) (base theirs : KeyMap)
      → (retry : IsRetry formats files parent old ours item new base theirs)
      → item.by ≤ length (commits_of retry.stored.done.found) → SeesTo involved item.by (record_of new.rec)
  seen-behind old ours item new base theirs retry within m front among is =
      let store = store_at files in
      let present : List Commit = commits_of new.seen in
      let gives : Gives (store_of files (λ n. proc_of retry.between.rec)) present retry.between.number parent (record_of retry.between.rec) (record_of new.rec) retry.got = retry.is_got (λ n. proc_of retry.between.rec) refl in
      let least : length present ≤ front =
      sees-keeping involved (length present) (wants (points_of store) (replay store.start present)) (record_of retry.between.rec) m front among (ap (λ (r : Record). front_in r m) (sym gives.kept) ∙ is) in
      let found : length (commits_of retry.stored.done.found) ≡ length (commits_of retry.between.seen) = ap (λ (l : List Told). length (commits_of l)) (sym (retry.stored.done.sees ∙ append-nil retry.stored.done.found)) in
      omega (arith, within, found, least, prefix-length (commits_of retry.between.seen) (commits_of new.seen) (commits-prefix retry.between.seen new.seen retry.seen))

  -- the numbers of the tries rise, and what comes behind them
  rise-tries : (old : HandleValue) (ours : KeyMap) (items : List Tried) (new : HandleValue) (last : KeyMap) (n : ℕ)
      (more : List ℕ) → AreTries (IsTry formats files parent strategy) old ours items new last
      → SeesTo involved n (record_of old.rec)
      → ((k : ℕ) → SeesTo involved k (record_of new.rec) → Rise k more)
      → Rise n (over (λ (item : Tried). item.by) items ++ more)
  rise-tries old ours [] new last n more same sees rest =
      rest n (subst (λ (h : HandleValue). SeesTo involved n (record_of h.rec)) (sym same.0) sees)
  rise-tries old ours (item ∷ items) new last n more leads sees rest =
      let retry = leads.is_try.retry in
      let met = met-behind old retry.between ours item.mount item.by item.front n retry.stored sees in
      (met.0, rise-tries leads.mid leads.next items new last item.by more leads.rest (seen-behind old ours item leads.mid leads.is_try.base leads.is_try.theirs retry met.1) rest)

  module _ (tries : ℕ) (old : HandleValue) (ours : KeyMap) (new : HandleValue) (after : KeyMap) (tried : List Tried) where
    from_all : (made : List Tried) (last : HandleValue) (keys : KeyMap)
        → AreTries (IsTry formats files parent strategy) old ours made last keys → (more : List ℕ)
        → ((k : ℕ) → SeesTo involved k (record_of last.rec) → Rise k more)
        → Rise 0 (over (λ (item : Tried). item.by) made ++ more)
    from_all made last keys retries more rest =
        rise-tries old ours made last keys 0 more retries (λ m front among is. omega arith) rest

    -- behind tries that were all merged
    whole : (made : List Tried) (last : HandleValue) (keys : KeyMap)
        → AreTries (IsTry formats files parent strategy) old ours made last keys → tried ≡ made
        → Rise 0 (over (λ (item : Tried). item.by) tried)
    whole made last keys retries same =
        subst (λ (l : List Tried). Rise 0 (over (λ (item : Tried). item.by) l)) (sym same)
        (subst (Rise 0) (append-nil (over (λ (item : Tried). item.by) made)) (from_all made last keys retries [] (λ k sees. tt)))

    -- and where the last one was cut
    cut : (made : List Tried) (last : HandleValue) (keys : KeyMap) (Unmade : KeyMap → KeyMap → Type 0)
        → AreTries (IsTry formats files parent strategy) old ours made last keys
        → IsCut formats files parent last keys made new tried Unmade
        → Rise 0 (over (λ (item : Tried). item.by) tried)
    cut made last keys Unmade retries is =
        let item = is.item in
        subst (λ (l : List Tried). Rise 0 (over (λ (it : Tried). it.by) l)) (sym is.tried_is)
        (subst (Rise 0) (sym (map-append (λ (it : Tried). it.by) made (item ∷ [])))
        (from_all made last keys retries (item.by ∷ []) (λ k sees. ((met-behind last is.retry.between keys item.mount item.by item.front k is.retry.stored sees).0, tt))))

    pub rising : (end : Result Done MergeEnd)
        → IsMergedSet formats files parent strategy tries old ours new after tried end → Rise 0 (in_the_way tried end)
    rising (Ok done) is = whole is.made is.last is.keys is.retries is.ends.0
    rising (Err (merge_end.TriesSpent mount by front)) is =
        subst (λ (l : List Tried). Rise 0 (over (λ (item : Tried). item.by) l ++ by ∷ [])) (sym is.ends.0)
        (from_all is.made is.last is.keys is.retries (by ∷ []) (λ k sees. ((met-behind is.last new is.keys mount by front k is.ends.1 sees).0, tt)))
    rising (Err (merge_end.Set why)) is = whole is.made is.last is.keys is.retries is.ends.0
    rising (Err (merge_end.MergeConflicts names)) is = cut is.made is.last is.keys _ is.retries is.ends
    rising (Err merge_end.Memory) is = by is.ends
      where
        by : ((tried ≡ is.made) × IsIdle is.last new)
            ⊎ IsCut formats files parent is.last is.keys is.made new tried (λ base theirs. Unit {0})
            → Rise 0 (over (λ (item : Tried). item.by) tried)
        by (inl idle) = whole is.made is.last is.keys is.retries idle.0
        by (inr last) = cut is.made is.last is.keys _ is.retries last
