-- Tries one after another: what holds of the first state where it holds of the last, what each of them keeps, and the
-- same tries by relations that say less.
use Rattle.std.proofs.Common.{inl, inr, ℕ, List, [], ◌∷◌, ◌++◌, Result, Ok, Err, sym, subst, append-nil, append_assoc}
use Rattle.key_merge.specs.declared.strategies.Strategy.{Strategy}
use Rattle.kdb_handle.specs.Remaking.{AreTries, IsCutBy, IsEndBy, IsMergedBy, IsTryBy}
use Rattle.kdb_handle.specs.declared.merging.MergeEnd.{MergeEnd}
use Rattle.kdb_handle.specs.declared.merging.MergeEnd.TheVariants as merge_end
use Rattle.kdb_handle.specs.declared.merging.Tried.{Tried}
use Rattle.kdb_handle.specs.declared.setting.SetFault.{SetFault}
use Rattle.kdb_handle.specs.declared.setting.SetFault.TheVariants as set_fault
use Rattle.model_maps.specs.KeyMap.{KeyMap}
use Rattle.model_names.specs.Name.{Name}
use Rattle.store_core.specs.declared.committing.CommitFault.TheVariants as commit_fault
use Rattle.store_core.specs.declared.committing.Done.{Done}

-- what a try is: a set that met a conflict and the get behind it, from a state to the next
abbrev Retrying : Type 0 → Type 1
Retrying S = S → KeyMap → Tried → S → KeyMap → KeyMap → Type 0

module _ {S : Type 0} (IsRetry : Retrying S) (points : List Name) (parent : Name) (strategy : Strategy) (Within : S → Type 0)
    (back : (old new : S) (ours : KeyMap) (item : Tried) (base theirs : KeyMap) → IsRetry old ours item new base theirs → Within new → Within old) where
  -- what holds of the last state holds of the first, where each try hands it back
  pub tries-back : (old : S) (ours : KeyMap) (items : List Tried) (new : S) (last : KeyMap)
      → AreTries (IsTryBy IsRetry points parent strategy) old ours items new last → Within new → Within old
  tries-back old ours [] new last h within = subst Within h.0 within
  tries-back old ours (item ∷ items) new last h within =
      back old h.mid ours item h.is_try.base h.is_try.theirs h.is_try.retry (tries-back h.mid h.next items new last h.rest within)

  module _ (Held : List Tried → S → Type 0)
      (keeps : (before : List Tried) (old new : S) (ours : KeyMap) (item : Tried) (base theirs : KeyMap) → IsRetry old ours item new base theirs → Within new → Held before old → Held (before ++ item ∷ []) new) where
    -- what each try keeps, with the items up to it, they all keep
    pub tries-keep : (before : List Tried) (old : S) (ours : KeyMap) (items : List Tried) (new : S) (last : KeyMap)
        → AreTries (IsTryBy IsRetry points parent strategy) old ours items new last
        → Within new → Held before old → Held (before ++ items) new
    tries-keep before old ours [] new last h within held =
        subst (λ (s : S). Held (before ++ []) s) (sym h.0) (subst (λ (items : List Tried). Held items old) (sym (append-nil before)) held)
    tries-keep before old ours (item ∷ items) new last h within held =
        let first = keeps before old h.mid ours item h.is_try.base h.is_try.theirs h.is_try.retry (tries-back h.mid h.next items new last h.rest within) held in
        subst (λ (all : List Tried). Held all new) (append_assoc before (item ∷ []) items) (tries-keep (before ++ item ∷ []) h.mid h.next items new last h.rest within first)

    -- so does one that has no merge behind it
    pub cut-keeps : (last : S) (keys : KeyMap) (made : List Tried) (new : S) (tried : List Tried)
        (Unmade : KeyMap → KeyMap → Type 0) → IsCutBy IsRetry last keys made new tried Unmade
        → Within new → Held made last → Held tried new
    cut-keeps last keys made new tried Unmade h within held =
        subst (λ (items : List Tried). Held items new) (sym h.tried_is) (keeps made last new keys h.item h.base h.theirs h.retry within held)

-- ---- by relations that say less

-- what is a try by one relation is one by another, and so are the sets
module _ {S : Type 0} (IsRetry IsRetryToo : Retrying S) (IsSet IsSetToo : S → S → KeyMap → Result Done SetFault → Type 0) (IsIdle : S → S → Type 0)
    (retry-too : (old new : S) (ours : KeyMap) (item : Tried) (base theirs : KeyMap) → IsRetry old ours item new base theirs → IsRetryToo old ours item new base theirs)
    (set-too : (old new : S) (keys : KeyMap) (result : Result Done SetFault) → IsSet old new keys result → IsSetToo old new keys result) (points : List Name) (parent : Name) (strategy : Strategy) where
  tries-too : (old : S) (ours : KeyMap) (items : List Tried) (new : S) (last : KeyMap)
      → AreTries (IsTryBy IsRetry points parent strategy) old ours items new last
      → AreTries (IsTryBy IsRetryToo points parent strategy) old ours items new last
  tries-too old ours [] new last h = h
  tries-too old ours (item ∷ items) new last h =
      let one = h.is_try in
      record {
        mid = h.mid;
        next = h.next;
        is_try = record { base = one.base; theirs = one.theirs; retry = retry-too old h.mid ours item one.base one.theirs one.retry; remade = one.remade };
        rest = tries-too h.mid h.next items new last h.rest;
      }

  module _ (tries : ℕ) (last new : S) (keys : KeyMap) (made tried : List Tried) where
    cut-too : (Unmade : KeyMap → KeyMap → Type 0) → IsCutBy IsRetry last keys made new tried Unmade
        → IsCutBy IsRetryToo last keys made new tried Unmade
    cut-too Unmade h =
        record {
          item = h.item;
          tried_is = h.tried_is;
          base = h.base;
          theirs = h.theirs;
          retry = retry-too last new keys h.item h.base h.theirs h.retry;
          unmade = h.unmade;
        }

    end-too : (end : Result Done MergeEnd)
        → IsEndBy IsRetry IsSet IsIdle points parent strategy tries last keys made new tried end
        → IsEndBy IsRetryToo IsSetToo IsIdle points parent strategy tries last keys made new tried end
    end-too (Ok done) h = (h.0, set-too last new keys (Ok done) h.1)
    end-too (Err (merge_end.TriesSpent mount by front)) h =
        (h.0, set-too last new keys (Err (set_fault.Commit (commit_fault.Conflict mount by front))) h.1, h.2)
    end-too (Err (merge_end.Set why)) h = (h.0, set-too last new keys (Err why) h.1, h.2)
    end-too (Err (merge_end.MergeConflicts names)) h = cut-too _ h
    end-too (Err merge_end.Memory) (inl idle) = inl idle
    end-too (Err merge_end.Memory) (inr cut) = inr (cut-too _ cut)

  pub merged-too : (tries : ℕ) (old : S) (ours : KeyMap) (new : S) (after : KeyMap) (tried : List Tried)
      (end : Result Done MergeEnd)
      → IsMergedBy IsRetry IsSet IsIdle points parent strategy tries old ours new after tried end
      → IsMergedBy IsRetryToo IsSetToo IsIdle points parent strategy tries old ours new after tried end
  merged-too tries old ours new after tried end h = record {
    made = h.made;
    last = h.last;
    keys = h.keys;
    retries = tries-too old ours h.made h.last h.keys h.retries;
    fewer = h.fewer;
    ends = end-too tries h.last new h.keys h.made tried end h.ends;
    after_is = h.after_is;
  }
