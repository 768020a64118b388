-- What one attempt of a merged set comes to, and what all of them do.
use Rattle.std.proofs.Common.{◌≡◌, inl, inr, ℕ, ◌+◌, ◌<◌, ◌≤◌, false, List, [], ◌∷◌, ◌++◌, length, None, Result, Ok, Err, refl, sym, ap, subst, ◌∙◌, append-nil, arith, length-append}
use mathlib.Core.List.{IsPrefix}
use Rattle.std.specs.FinMap as map
use Rattle.key_merge.specs.Merging.{AreConflicts, IsMerged}
use Rattle.key_merge.specs.Refusing.{HasConflicts, RefusesMerge}
use Rattle.key_merge.specs.declared.merging.Merge3Fault.{Merge3Fault}
use Rattle.key_merge.specs.declared.merging.Merge3Fault.TheVariants as merge_fault
use Rattle.key_merge.specs.declared.strategies.Strategy.{Strategy}
use Rattle.kdb_handle.specs.Gets.{Gives, IsGotAt}
use Rattle.kdb_handle.specs.Handles.{HandleValue}
use Rattle.kdb_handle.specs.Merging.{IsAgain, IsAttempt, IsCut, IsEnd, IsIdle, IsMergedSet, IsRetry, IsTry}
use Rattle.kdb_handle.specs.Opened.{store_at}
use Rattle.kdb_handle.specs.Remaking.{AreInTheWay, AreTries, IsKept, IsOther, keys_after}
use Rattle.kdb_handle.specs.Sets.{IsSet, IsStored}
use Rattle.kdb_handle.specs.Stores.{IsHandle}
use Rattle.kdb_handle.specs.Story.{Told, commits_of}
use Rattle.kdb_handle.specs.declared.merging.MergeEnd.{MergeEnd}
use Rattle.kdb_handle.specs.declared.merging.MergeEnd.TheVariants as merge_end
use Rattle.kdb_handle.specs.declared.merging.Tried.{Tried}
use Rattle.kdb_handle.specs.declared.setting.SetFault.{SetFault}
use Rattle.kdb_handle.proofs.RemakeLemmas.{base-outside, in_the_way, kept-now, reach-outside, remade}
use Rattle.model_history.specs.History.{replay}
use Rattle.model_maps.specs.KeyMap.{KeyMap}
use Rattle.model_names.specs.Name.{Name}
use Rattle.model_store.specs.Legal.{IsLegal}
use Rattle.model_store.specs.Store.{Formats, points_of, store_of}
use Rattle.mounted_files.specs.declared.files.MountedFile.{MountedFile}
use Rattle.seat_lock.specs.Known.{Place}
use Rattle.seat_lock.proofs.Prefixes.{prefix-trans}
use Rattle.set_split.specs.Parts.{in_reach, is_reached}
use Rattle.store_core.specs.declared.committing.CommitFault.TheVariants as commit_fault
use Rattle.store_core.specs.declared.committing.Done.{Done}
use Rattle.store_core.specs.declared.cores.Plan.{Plan}
use Rattle.store_core.specs.declared.getting.Got.{Got}
use Rattle.store_verdict.specs.RecordView.{proc_of, record_of}
use Rattle.store_verdict.specs.declared.records.Record.{Record}

-- ---- behind a conflict

-- the same keys are kept by the points and the record that a handle shows
pub kept_as : (points others : List Name) (parent : Name) (rec shown : Record) (keys : KeyMap) → points ≡ others
    → rec ≡ shown → IsKept points parent (record_of rec) keys → IsKept others parent (record_of shown) keys
kept_as points others parent rec shown keys same_points same_record is =
    subst (λ (ps : List Name). IsKept ps parent (record_of shown) keys) same_points (subst (λ (r : Record). IsKept points parent (record_of r) keys) same_record is)

abbrev names_in : Merge3Fault → List Name
names_in (merge_fault.Conflicts names) = names
names_in merge_fault.Memory = []

module _ (formats : Formats) {F : Type 0} (lock : Place Told) (plan : Plan F) (parent : Name) (ours : KeyMap) (mount : Name) (by front : ℕ) (between : HandleValue) (is : IsHandle lock plan between) where
  abbrev points : List Name
  points = points_of (store_at plan.mounted)

  abbrev IsMet : HandleValue → Type 0
  IsMet first = IsStored formats plan.mounted first between parent ours (Err (commit_fault.Conflict mount by front))

  -- the handle that met a conflict saw what the set found, and did nothing else
  pub idle : (first new : HandleValue) → IsMet first → IsPrefix between.seen new.seen → new.own ≡ between.own
      → record_of new.rec ≡ record_of between.rec → IsIdle first new
  idle first new met seen own kept = record {
    seen = prefix-trans first.seen between.seen new.seen (first_seen first met) seen;
    own = own ∙ met.done.gains ∙ append-nil first.own;
    kept = kept ∙ met.done.kept;
  }
    where
      first_seen : (first : HandleValue) → IsMet first → IsPrefix first.seen between.seen
      first_seen first met =
          subst (λ (l : List Told). IsPrefix first.seen l) (sym (met.done.sees ∙ append-nil met.done.found)) met.done.seen

  -- what the involved mounts have in the commits that a handle has seen
  abbrev pub present_in : HandleValue → KeyMap
  present_in new = in_reach points parent (replay (store_at plan.mounted).start (commits_of new.seen))

  abbrev GotClause : HandleValue → Got → Type 0
  GotClause new got = (procs : ℕ → KeyMap) → procs between.number ≡ proc_of between.rec
      → IsGotAt (store_of plan.mounted procs) plan.mounted (commits_of new.seen) between.number parent (record_of between.rec) (record_of new.rec) (Ok got)

  -- what is kept behind a get is what there is now
  pub present_kept : (new : HandleValue) (got : Got) → GotClause new got → (theirs : KeyMap)
      → IsKept points parent (record_of new.rec) theirs → theirs ≡ present_in new
  present_kept new got is_got theirs theirs_are =
      let gives : Gives (store_of plan.mounted (λ n. proc_of between.rec)) (commits_of new.seen) between.number parent (record_of between.rec) (record_of new.rec) got = is_got (λ n. proc_of between.rec) refl in
      kept-now points parent (length (commits_of new.seen)) (replay (store_at plan.mounted).start (commits_of new.seen)) (record_of between.rec) (record_of new.rec) theirs gives.kept theirs_are

  module _ (new : HandleValue) (base theirs : KeyMap) (base_is : IsKept points parent (record_of between.rec) base) (number : new.number ≡ between.number) (proc : proc_of new.rec ≡ proc_of between.rec)
      (seen : IsPrefix between.seen new.seen) (own : new.own ≡ between.own) (legal : IsLegal formats (store_at plan.mounted) (commits_of new.seen)) (got : Got) (is_got : GotClause new got) (theirs_is : theirs ≡ present_in new) where
    abbrev item : Tried
    item = record { mount = mount; by = by; front = front; again = got.front }

    retry : (first : HandleValue) → between.number ≡ first.number → IsMet first
        → IsRetry formats plan.mounted parent first ours item new base theirs
    retry first numbered met =
        record {
          between = between;
          stored = met;
          numbered = numbered;
          base_is = base_is;
          number = number;
          proc = proc;
          seen = seen;
          own = own;
          legal = legal;
          got = got;
          is_got = is_got;
          again = refl;
          theirs_is = theirs_is;
        }

    no_base : (name : Name) → is_reached points parent name ≡ false → map.get base name ≡ None
    no_base =
        base-outside (store_at plan.mounted) (commits_of between.seen) between.number (record_of between.rec) parent base is.keeps base_is

    no_theirs : (name : Name) → is_reached points parent name ≡ false → map.get theirs name ≡ None
    no_theirs name off =
        ap (λ (k : KeyMap). map.get k name) theirs_is
        ∙ reach-outside points parent (replay (store_at plan.mounted).start (commits_of new.seen)) name off

    module _ (strategy : Strategy) (first : HandleValue) (numbered : between.number ≡ first.number) (met : IsMet first) (made tried : List Tried) (tried_is : tried ≡ made ++ item ∷ []) where
      pub made_again : (next : KeyMap) → IsMerged strategy base ours theirs next
          → IsAgain formats plan.mounted parent strategy first ours made new tried next
      made_again next merged =
          record {
            item = item;
            tried_is = tried_is;
            is_try = record { base = base; theirs = theirs; retry = retry first numbered met; remade = remade points parent strategy base ours theirs no_base no_theirs next merged };
          }

      clash : (names : List Name) → HasConflicts strategy base ours theirs (merge_fault.Conflicts names)
          → AreInTheWay points parent strategy base ours theirs names
      clash names has =
          in_the_way points parent strategy base ours theirs no_base no_theirs has.abort names (subst (AreConflicts base ours theirs) (sym (ap names_in has.is)) has.conflicts)

      pub made_clash : (names : List Name) → RefusesMerge strategy base ours theirs (merge_fault.Conflicts names)
          → IsCut formats plan.mounted parent first ours made new tried (λ b t. AreInTheWay points parent strategy b ours t names)
      made_clash names refuses =
          record {
            item = item;
            tried_is = tried_is;
            base = base;
            theirs = theirs;
            retry = retry first numbered met;
            unmade = clash names (refuses (λ e. absurd cc));
          }

      pub made_none : IsCut formats plan.mounted parent first ours made new tried (λ b t. Unit {0})
      made_none =
          record {
            item = item;
            tried_is = tried_is;
            base = base;
            theirs = theirs;
            retry = retry first numbered met;
            unmade = tt;
          }

-- ---- the tries

-- one try more
pub tries-more : {S : Type 0} (IsOne : S → KeyMap → Tried → S → KeyMap → Type 0) (old : S) (ours : KeyMap)
    (items : List Tried) (mid : S) (keys : KeyMap) (item : Tried) (new : S) (next : KeyMap)
    → AreTries IsOne old ours items mid keys → IsOne mid keys item new next
    → AreTries IsOne old ours (items ++ item ∷ []) new next
tries-more {S} IsOne old ours [] mid keys item new next same one =
    record {
      mid = new;
      next = next;
      is_try = subst (λ (s : S). IsOne s ours item new next) same.0 (subst (λ (k : KeyMap). IsOne mid k item new next) same.1 one);
      rest = (refl, refl);
    }
tries-more {S} IsOne old ours (first ∷ items) mid keys item new next leads one =
    record {
      mid = leads.mid;
      next = leads.next;
      is_try = leads.is_try;
      rest = tries-more IsOne leads.mid leads.next items mid keys item new next leads.rest one;
    }

module _ (formats : Formats) (files : List MountedFile) (parent : Name) (strategy : Strategy) (tries : ℕ) (old : HandleValue) (ours : KeyMap) (made : List Tried) (last : HandleValue) (keys : KeyMap) (retries : AreTries (IsTry formats files parent strategy) old ours made last keys) where
  pub tried_again : (new : HandleValue) (tried : List Tried) (next : KeyMap)
      → IsAgain formats files parent strategy last keys made new tried next
      → AreTries (IsTry formats files parent strategy) old ours tried new next
  tried_again new tried next again =
      subst (λ (l : List Tried). AreTries (IsTry formats files parent strategy) old ours l new next) (sym again.tried_is)
      (tries-more (IsTry formats files parent strategy) old ours made last keys again.item new next retries again.is_try)

  pub more_tried : (new : HandleValue) (tried : List Tried) (next : KeyMap)
      → IsAgain formats files parent strategy last keys made new tried next → length tried ≡ length made + 1
  more_tried new tried next again = ap length again.tried_is ∙ length-append made (again.item ∷ [])

  module _ (new : HandleValue) (after : KeyMap) (tried : List Tried) where
    pub stored_so : (done : Done) → length made < tries → after ≡ keys → (tried ≡ made)
        → IsStored formats files last new parent keys (Ok done)
        → IsMergedSet formats files parent strategy tries old ours new after tried (Ok done)
    stored_so done few same all stored =
        record {
          made = made;
          last = last;
          keys = keys;
          retries = retries;
          fewer = omega (arith, few, ap length all);
          ends = (all, stored);
          after_is = same;
        }

    -- the last of the tries ends them
    pub last_so : (end : Result Done MergeEnd) → length made + 1 ≡ tries → after ≡ keys_after ours keys end
        → tried ≡ made → IsEnd formats files parent strategy tries last keys made new made end
        → IsMergedSet formats files parent strategy tries old ours new after tried end
    last_so end each same all ends = record {
      made = made;
      last = last;
      keys = keys;
      retries = retries;
      fewer = omega (arith, each, ap length all);
      ends = subst (λ (l : List Tried). IsEnd formats files parent strategy tries last keys made new l end) (sym all) ends;
      after_is = same;
    }

    refused_so : (why : SetFault) → length made < tries → after ≡ ours → (tried ≡ made)
        → IsSet formats files last new parent keys (Err why) → IsOther why
        → IsMergedSet formats files parent strategy tries old ours new after tried (Err (merge_end.Set why))
    refused_so why few same all set other =
        record {
          made = made;
          last = last;
          keys = keys;
          retries = retries;
          fewer = omega (arith, few, ap length all);
          ends = (all, set, other);
          after_is = same;
        }

    cut_so : (end : MergeEnd) (Unmade : KeyMap → KeyMap → Type 0) → length made + 1 < tries → after ≡ ours
        → IsCut formats files parent last keys made new tried Unmade
        → IsEnd formats files parent strategy tries last keys made new tried (Err end)
        → IsMergedSet formats files parent strategy tries old ours new after tried (Err end)
    cut_so end Unmade few same cut ends = record {
      made = made;
      last = last;
      keys = keys;
      retries = retries;
      fewer = omega (arith, few, ap length cut.tried_is, length-append made (cut.item ∷ []));
      ends = ends;
      after_is = same;
    }

    -- an attempt ended the tries
    pub ended_so : (end : MergeEnd) → length made + 1 < tries → after ≡ ours
        → IsAttempt formats files parent strategy 0 last keys made new tried (Err end)
        → IsMergedSet formats files parent strategy tries old ours new after tried (Err end)
    ended_so (merge_end.MergeConflicts names) few same ends =
        cut_so (merge_end.MergeConflicts names) _ few same ends ends
    ended_so (merge_end.TriesSpent mount by front) few same ends = absurd ends
    ended_so (merge_end.Set why) few same ends = refused_so why (omega (arith, few)) same ends.0 ends.1 ends.2
    ended_so merge_end.Memory few same (inl idle) =
        record {
          made = made;
          last = last;
          keys = keys;
          retries = retries;
          fewer = omega (arith, few, ap length idle.0);
          ends = inl idle;
          after_is = same;
        }
    ended_so merge_end.Memory few same (inr cut) = cut_so merge_end.Memory _ few same cut (inr cut)

-- where there was no memory for the first try
pub none_tried : (formats : Formats) (files : List MountedFile) (parent : Name) (strategy : Strategy) (tries : ℕ)
    (old : HandleValue) (ours : KeyMap) (tried : List Tried) → 1 ≤ tries → tried ≡ []
    → IsMergedSet formats files parent strategy tries old ours old ours tried (Err merge_end.Memory)
none_tried formats files parent strategy tries old ours tried some none = record {
  made = [];
  last = old;
  keys = ours;
  retries = (refl, refl);
  fewer = omega (arith, some, ap length none);
  ends = inl (none, record { seen = ([], append-nil old.seen); own = refl; kept = refl });
  after_is = refl;
}
