-- A merged set: what is in the way of each try is the commit of another, behind that of the try before; and the fronts
-- cover as before.
use Rattle.std.proofs.Common.{◌≡◌, inl, inr, ℕ, ◌+◌, ◌≤◌, Bool, true, false, List, [], ◌∷◌, ◌++◌, length, map as over, take, Some, Result, Ok, Err, refl, sym, ap, subst, ◌∙◌, arith, length-append}
use Rattle.std.specs.List.{AllByRecursion}
use mathlib.Core.List.{IsPrefix}
use Rattle.general_words.proofs.Lists.{all_append, all_map}
use Rattle.key_merge.specs.declared.strategies.Strategy.{Strategy}
use Rattle.kdb_handle.specs.Fronts.{Cover, IsAnothers}
use Rattle.kdb_handle.specs.Opened.{store_at}
use Rattle.kdb_handle.specs.Remaking.{AreTries, IsCutBy, IsTryBy}
use Rattle.kdb_handle.specs.Sets.{tells_refusal}
use Rattle.kdb_handle.specs.declared.merging.MergeEnd.{MergeEnd}
use Rattle.kdb_handle.specs.declared.merging.MergeEnd.TheVariants as merge_end
use Rattle.kdb_handle.specs.declared.merging.Tried.{Tried}
use Rattle.kdb_handle.specs.declared.replies.Reply.{Reply}
use Rattle.kdb_handle.specs.declared.replies.Reply.TheVariants as reply
use Rattle.kdb_handle.specs.declared.setting.SetFault.{SetFault}
use Rattle.kdb_handle.specs.declared.setting.SetFault.TheVariants as set_fault
use Rattle.kdb_handle.proofs.BlockLemmas.{SeesTo, another, blocked_at, blocks-behind, sees-keeping}
use Rattle.model_batch.specs.Merges.{EndsSo, Merges, Retries, SetsSo, Stays}
use Rattle.model_batch.specs.Replies.{conflicts_told, merge_reply, numbers_told, set_reply, stored_reply}
use Rattle.model_batch.specs.Sessions.{Session}
use Rattle.model_batch.specs.Sets.{IsJudgedThen, StandsNext, kept_then, record_then, set_by, told_then}
use Rattle.model_batch.specs.Told.{count_of_others}
use Rattle.model_batch.proofs.Covering.{AreAnothers, AreTold, Covers, Leaves, NoneBetween, covers-kept, leaves, none-behind, past-cover, set-covers}
use Rattle.model_batch.proofs.OwnLemmas.{anothers-longer, count-first, count-more}
use Rattle.model_batch.proofs.Telling.{numbers-behind, set-later}
use Rattle.model_batch.proofs.TriesLemmas.{cut-keeps, tries-keep}
use Rattle.model_history.specs.History.{Commit, replay}
use Rattle.model_maps.specs.KeyMap.{KeyMap}
use Rattle.model_names.specs.Name.{Name}
use Rattle.model_store.specs.Records.{Record}
use Rattle.model_store.specs.Sets.{Prepared, front_in, only, wants}
use Rattle.model_store.specs.Store.{Formats, Store, points_of}
use Rattle.model_store.specs.Verdicts.{blocking}
use Rattle.model_store.proofs.VerdictLemmas.{is_blocked}
use Rattle.mounted_files.specs.declared.files.MountedFile.{MountedFile}
use Rattle.set_split.specs.Involved.{involved_in}
use Rattle.store_core.specs.Answers.{IsJudged}
use Rattle.store_core.specs.declared.committing.CommitFault.{CommitFault}
use Rattle.store_core.specs.declared.committing.CommitFault.TheVariants.{Conflict, Memory}
use Rattle.store_core.specs.declared.committing.Done.{Done}
use Rattle.store_verdict.specs.declared.faults.PrepareFault.TheVariants as early_fault

-- what a reply says that a judged set came to
abbrev result_in : Reply → Result Done CommitFault
result_in (reply.SetDone done) = Ok done
result_in (reply.SetRefused (set_fault.Commit why)) = Err why
result_in other = Err Memory

result-back : (result : Result Done CommitFault) → result_in (set_reply result) ≡ result
result-back (Ok done) = refl
result-back (Err why) = refl

-- whether a reply says that all tries are spent
abbrev is_spent_end : MergeEnd → Bool
is_spent_end (merge_end.TriesSpent mount by front) = true
is_spent_end other = false

abbrev is_spent : Reply → Bool
is_spent (reply.MergeRefused fault) = is_spent_end fault.end
is_spent other = false

no_other : true ≡ false → ⊥
no_other e = absurd cc

module _ (number : ℕ) (history : List Commit) (formats : Formats) (files : List MountedFile) (parent : Name) where
  abbrev store : Store
  store = store_at files

  abbrev involved : List ℕ
  involved = involved_in (points_of store) parent

  abbrev Retry : Session → KeyMap → Tried → Session → KeyMap → KeyMap → Type 0
  Retry = Retries formats files number history parent

  -- the numbers of the commits that tries met, and that they are others'
  abbrev met_by : List Tried → List ℕ
  met_by items = over (λ item. item.by) items

  abbrev MetOthers : List Tried → Type 0
  MetOthers items = AllByRecursion (λ item. IsAnothers number history item.by) items

  -- ---- one set that met a conflict

  -- a commit of the first so many blocks a mount; the record stays
  record Meets (old new : Session) (by : ℕ) : Type 0 where
    pub past : List Commit
    pub begins : IsPrefix past history
    pub no_less : old.told ≤ length past
    pub mount : ℕ
    pub set : Prepared
    pub handle : set.handle ≡ number
    pub fronts : set.fronts ≡ front_in (only involved old.rec)
    pub blocks : blocking store past set mount ≡ Some by
    pub rec_is : new.rec ≡ old.rec
    pub told_is : new.told ≡ length past

  met : (keys : KeyMap) (old new : Session) (mount : Name) (by front : ℕ)
      → IsJudgedThen formats store number history parent keys old (set_reply (Err (Conflict mount by front))) new
      → Meets old new by
  met keys old new mount by front h =
      let set : Prepared = set_by store number old parent keys in
      let same : h.result ≡ Err (Conflict mount by front) = sym (result-back h.result) ∙ ap result_in (sym h.reply_is) in
      let judged : IsJudged formats store (tells_refusal (Err (Conflict mount by front))) h.past (replay store.start h.past) set (Err (Conflict mount by front)) =
      subst (λ (r : Result Done CommitFault). IsJudged formats store (tells_refusal r) h.past (replay store.start h.past) set r) same h.judged in
      let rec_is : new.rec ≡ record_then store h.past set h.result old.rec = ap (λ (s : Session). s.rec) h.new_is in
      let told_is : new.told ≡ told_then h.result old.told = ap (λ (s : Session). s.told) h.new_is in
      record {
        past = h.past;
        begins = subst (StandsNext history h.past set) same h.stands;
        no_less = h.no_less;
        mount = judged.0;
        set = set;
        handle = refl;
        fronts = refl;
        blocks = blocked_at store h.past set set.touched judged.0 by (is_blocked judged.0 by formats store h.past (replay store.start h.past) set judged.3);
        rec_is = rec_is ∙ ap (λ (r : Result Done CommitFault). record_then store h.past set r old.rec) same;
        told_is = told_is ∙ ap (λ (r : Result Done CommitFault). told_then r old.told) same ∙ judged.2;
      }

  -- where the fronts cover, and see so far, the commit in the way is another's, and one more of those
  record Counts (from to by : ℕ) : Type 0 where
    pub anothers : IsAnothers number history by
    pub more : count_of_others number (take from history) + 1 ≤ count_of_others number (take to history)

  counts : (old new : Session) (by : ℕ) (meets : Meets old new by) (from to : ℕ)
      → NoneBetween number history old.told (length meets.past) → Covers number history store old.rec old.told
      → SeesTo involved from old.rec
      → new.told ≤ to → Counts from to by
  counts old new by meets from to none covers sees le =
      let cover : Cover store number meets.past (front_in old.rec) = past-cover number history store meets.past old.rec old.told meets.begins none covers in
      let own : Cover store meets.set.handle meets.past (front_in old.rec) = subst (λ n. Cover store n meets.past (front_in old.rec)) (sym meets.handle) cover in
      let blocks : IsAnothers meets.set.handle meets.past by = another store meets.past meets.set old.rec involved meets.mount by meets.fronts own meets.blocks in
      let other = anothers-longer number meets.past history by meets.begins (subst (λ n. IsAnothers n meets.past by) meets.handle blocks) in
      let behind = blocks-behind store meets.past meets.set involved old.rec meets.mount by from meets.fronts sees meets.blocks in
      record {
        anothers = other;
        more = count-more number history from other.place to other.commit other.there other.another (omega (arith, behind.0, other.by_is)) (omega (arith, behind.1, other.by_is, meets.told_is, le));
      }

  -- ---- the tries, from one place on

  module _ (from : ℕ) where
    -- what tries leave: the commit in the way of each is another's, and the others made so many
    record Way (before : List Tried) (s : Session) : Type 0 where
      pub least : from ≤ s.told
      pub covers : Covers number history store s.rec s.told
      pub anothers : MetOthers before
      pub reach : ℕ
      pub sees : SeesTo involved reach s.rec
      pub enough : length before ≤ count_of_others number (take reach history)

    no-way : (s : Session) → from ≤ s.told → Covers number history store s.rec s.told → Way [] s
    no-way s le covers =
        record {
          least = le;
          covers = covers;
          anothers = tt;
          reach = 0;
          sees = λ m front among is. omega arith;
          enough = omega arith;
        }

    retry-back : (top : ℕ) (old new : Session) (ours : KeyMap) (item : Tried) (base theirs : KeyMap)
        → Retry old ours item new base theirs → new.told ≤ top → old.told ≤ top
    retry-back top old new ours item base theirs h le =
        let set = set-later formats store number history parent ours old h.mid (set_reply (Err (Conflict item.mount item.by item.front))) (inl h.conflict) in
        let now : new.told ≡ length h.past = ap (λ (s : Session). s.told) h.new_is in
        omega (arith, set.0, h.no_less, now, le)

    retry-way : (top : ℕ) → NoneBetween number history from top
        → (before : List Tried) (old new : Session) (ours : KeyMap) (item : Tried) (base theirs : KeyMap)
        → Retry old ours item new base theirs → new.told ≤ top → Way before old → Way (before ++ item ∷ []) new
    retry-way top none before old new ours item base theirs h le way =
        let meets : Meets old h.mid item.by = met ours old h.mid item.mount item.by item.front h.conflict in
        let now : new.told ≡ length h.past = ap (λ (s : Session). s.told) h.new_is in
        let counted : Counts way.reach (length h.past) item.by = counts old h.mid item.by meets way.reach (length h.past) (none_set h le way meets) way.covers way.sees h.no_less in
        let wanted : ℕ → KeyMap = wants (points_of store) (replay store.start h.past) in
        let covers : Covers number history store (kept_then store h.past involved h.mid.rec) (length h.past) =
        covers-kept number history store h.past involved h.mid.rec old.told h.begins (none_got h le way) (subst (λ (r : Record). Covers number history store r old.told) (sym meets.rec_is) way.covers) in
        record {
          least = omega (arith, way.least, meets.no_less, meets.told_is, h.no_less, now);
          covers = subst (λ (s : Session). Covers number history store s.rec s.told) (sym h.new_is) covers;
          anothers = all_append (λ (it : Tried). IsAnothers number history it.by) before (item ∷ []) way.anothers (counted.anothers, tt);
          reach = length h.past;
          sees = subst (λ (s : Session). SeesTo involved (length h.past) s.rec) (sym h.new_is) (sees-keeping involved (length h.past) wanted h.mid.rec);
          enough = omega (arith, way.enough, counted.more, length-append before (item ∷ []));
        }
      where
        -- none of its own stands from the first state up to what the set and the get found
        none_got : (h : Retry old ours item new base theirs) → new.told ≤ top → Way before old
            → NoneBetween number history old.told (length h.past)
        none_got h le way place commit there own least =
            let now : new.told ≡ length h.past = ap (λ (s : Session). s.told) h.new_is in
            let far : top ≤ place = none place commit there own (omega (arith, way.least, least)) in
            omega (arith, far, now, le)

        none_set : (h : Retry old ours item new base theirs) → new.told ≤ top → Way before old
            → (meets : Meets old h.mid item.by) → NoneBetween number history old.told (length meets.past)
        none_set h le way meets place commit there own least =
            let far : length h.past ≤ place = none_got h le way place commit there own least in
            omega (arith, far, meets.told_is, h.no_less)

  -- ---- the end

  module _ (strategy : Strategy) (tries : ℕ) (old last new : Session) (keys : KeyMap) (made tried : List Tried)
      (retries : AreTries (IsTryBy Retry (points_of store) parent strategy) old old.working made last keys) (covers : Covers number history store old.rec old.told) where
    abbrev Tells : List ℕ → Type 0
    Tells numbers = AreTold number history old.told numbers new.told

    way : (top : ℕ) → NoneBetween number history old.told top → last.told ≤ top → Way old.told made last
    way top none le =
        tries-keep Retry (points_of store) parent strategy (λ (s : Session). s.told ≤ top) (retry-back old.told top) (Way old.told) (retry-way old.told top none)
        [] old old.working made last keys retries le (no-way old.told old (omega arith) covers)

    -- the fronts cover as before, and all that was in the way was another's
    record Comes (more : List ℕ) : Type 0 where
      pub fronts : Covers number history store new.rec new.told
      pub anothers : AreAnothers number history (met_by tried)
      pub others : AreAnothers number history more

    abbrev IsLast : Result Done SetFault → Type 0
    IsLast result = SetsSo formats files number history parent last new keys result

    none-before : (result : Result Done SetFault) → IsLast result → Tells (numbers_told (stored_reply result))
        → NoneBetween number history old.told last.told
    none-before result set told =
        let later = set-later formats store number history parent keys last new (stored_reply result) set in
        none-behind number history old.told new.told last.told (numbers_told (stored_reply result)) (numbers-behind last.told (stored_reply result) later.1) later.0 told

    items : (s : Session) → tried ≡ made → Way old.told made s → AreAnothers number history (met_by tried)
    items s same ways =
        all_map (IsAnothers number history) (λ (item : Tried). item.by) tried (subst MetOthers (sym same) ways.anothers)

    by_set : (result : Result Done SetFault) → tried ≡ made → IsLast result → Tells (numbers_told (stored_reply result))
        → Comes (conflicts_told (stored_reply result))
    by_set result same set told =
        let ways = way last.told (none-before result set told) (omega arith) in
        let ends =
        set-covers number history store parent formats keys last new (stored_reply result) set ways.covers
        (λ place commit there own least. told place commit there own (omega (arith, ways.least, least))) in
        record { fronts = ends.0; anothers = items last same ways; others = ends.1 }

    none-told : Tells [] → NoneBetween number history old.told new.told
    none-told told = none-behind number history old.told new.told new.told [] tt (omega arith) told

    by_cut : (Unmade : KeyMap → KeyMap → Type 0) → IsCutBy Retry last keys made new tried Unmade → Tells [] → Comes []
    by_cut Unmade cut told =
        let none = none-told told in
        let before = way new.told none (retry-back old.told new.told last new keys cut.item cut.base cut.theirs cut.retry (omega arith)) in
        let ways =
        cut-keeps Retry (points_of store) parent strategy (λ (s : Session). s.told ≤ new.told) (retry-back old.told new.told) (Way old.told) (retry-way old.told new.told none)
        last keys made new tried Unmade cut (omega arith) before in
        record {
          fronts = ways.covers;
          anothers = all_map (IsAnothers number history) (λ (item : Tried). item.by) tried ways.anothers;
          others = tt;
        }

    by_idle : tried ≡ made → Stays last new → Tells [] → Comes []
    by_idle same idle told =
        let ways = way new.told (none-told told) (omega (arith, ap (λ (s : Session). s.told) idle)) in
        record {
          fronts = subst (λ (s : Session). Covers number history store s.rec s.told) (sym idle) ways.covers;
          anothers = items last same ways;
          others = tt;
        }

    both : (more : List ℕ) → Comes more
        → Covers number history store new.rec new.told × AreAnothers number history (met_by tried ++ more)
    both more comes =
        (comes.fronts, all_append (IsAnothers number history) (met_by tried) more comes.anothers comes.others)

    end-covers : (end : Result Done MergeEnd)
        → EndsSo formats files number history parent strategy tries last keys made new tried end
        → Tells (numbers_told (merge_reply tried end))
        → Leaves number history store (merge_reply tried end) new
    end-covers (Ok done) h told = let comes = by_set (Ok done) h.0 h.1 told in (comes.fronts, comes.anothers)
    end-covers (Err (merge_end.TriesSpent mount by front)) h told =
        both (by ∷ []) (by_set (Err (set_fault.Commit (Conflict mount by front))) h.0 h.1 told)
    end-covers (Err (merge_end.Set why)) h told =
        both (conflicts_told (stored_reply (Err why))) (by_set (Err why) h.0 h.1 told)
    end-covers (Err (merge_end.MergeConflicts names)) h told = both [] (by_cut _ h told)
    end-covers (Err merge_end.Memory) (inl idle) told = both [] (by_idle idle.0 idle.1 told)
    end-covers (Err merge_end.Memory) (inr cut) told = both [] (by_cut _ cut told)

    -- where all tries are spent, others made so many commits
    spent : (mount : Name) (by front : ℕ) → tried ≡ made → length tried + 1 ≡ tries
        → IsLast (Err (set_fault.Commit (Conflict mount by front))) → Tells [] → tries ≤ count_of_others number history
    spent mount by front same count set told = judged set
      where
        result : Result Done SetFault
        result = Err (set_fault.Commit (Conflict mount by front))

        -- another reply tells of no conflict
        no : (other : Reply) → conflicts_told other ≡ [] → stored_reply result ≡ other
            → tries ≤ count_of_others number history
        no other none same = let some : by ∷ [] ≡ [] = ap conflicts_told same ∙ none in absurd cc

        judged : IsLast result → tries ≤ count_of_others number history
        judged (inl h) =
            let ways = way last.told (none-before result (inl h) told) (omega arith) in
            let meets : Meets last new by = met keys last new mount by front h in
            let none : NoneBetween number history last.told (length meets.past) = λ place commit there own least. omega (arith, none-told told place commit there own (omega (arith, ways.least, least)), meets.told_is) in
            let counted : Counts ways.reach new.told by = counts last new by meets ways.reach new.told none ways.covers ways.sees (omega arith) in
            omega (arith, count, ap length same, ways.enough, counted.more, count-first number new.told history)
        judged (inr (inl h)) = no (reply.SetRefused (set_fault.Prepare h.why)) refl h.reply_is
        judged (inr (inr (inl h))) = no (reply.SetRefused (set_fault.Commit Memory)) refl h.reply_is
        judged (inr (inr (inr (inl h)))) = no (reply.SetRefused (set_fault.Prepare early_fault.Memory)) refl h.reply_is
        judged (inr (inr (inr (inr h)))) = no reply.Memory refl h.reply_is

  pub merges-cover : (strategy : Strategy) (tries : ℕ) (old new : Session) (answer : Reply)
      → Merges formats files number history parent strategy tries old answer new
      → Covers number history store old.rec old.told
      → AreTold number history old.told (numbers_told answer) new.told → Leaves number history store answer new
  merges-cover strategy tries old new answer h covers told =
      let merged = h.merged in
      leaves number history store old.told (merge_reply h.tried h.end) answer (record h.after { working = h.keys }) new h.reply_is h.new_is
      (end-covers strategy tries old merged.last h.after merged.keys merged.made h.tried merged.retries covers h.end merged.ends) told

  -- where a reply tells that all tries are spent
  pub merges-spent : (strategy : Strategy) (tries : ℕ) (old new : Session) (tried : List Tried) (mount : Name)
      (by front : ℕ)
      → Merges formats files number history parent strategy tries old (merge_reply tried (Err (merge_end.TriesSpent mount by front))) new
      → Covers number history store old.rec old.told
      → AreTold number history old.told [] new.told → tries ≤ count_of_others number history
  merges-spent strategy tries old new tried mount by front h covers told =
      by_end h.end h.merged.ends (subst (AreTold number history old.told []) (ap (λ (s : Session). s.told) h.new_is) told) h.reply_is
    where
      by_end : (end : Result Done MergeEnd)
          → EndsSo formats files number history parent strategy tries h.merged.last h.merged.keys h.merged.made h.after h.tried end
          → AreTold number history old.told [] h.after.told
          → merge_reply tried (Err (merge_end.TriesSpent mount by front)) ≡ merge_reply h.tried end
          → tries ≤ count_of_others number history
      by_end (Err (merge_end.TriesSpent mount2 by2 front2)) ends told same =
          spent strategy tries old h.merged.last h.after h.merged.keys h.merged.made h.tried h.merged.retries covers mount2 by2 front2 ends.0 ends.2 ends.1 told
      by_end (Ok done) ends told same = absurd (no_other (ap is_spent same))
      by_end (Err (merge_end.Set why)) ends told same = absurd (no_other (ap is_spent same))
      by_end (Err (merge_end.MergeConflicts names)) ends told same = absurd (no_other (ap is_spent same))
      by_end (Err merge_end.Memory) ends told same = absurd (no_other (ap is_spent same))
