-- What is made of a set that met a conflict, on the names that the involved mounts own, the tries one after another,
-- and how they end. Nothing here knows of a handle: what makes the tries is in some state, and what a set and a get
-- behind its conflict are in such states comes from outside. (This project's own.)
use Rattle.std.specs.Prelude.{◌≡◌, ◌⊎◌, ℕ, ◌+◌, ◌<◌, List, [], ◌∷◌, ◌++◌, length, map as over, Result, Ok, Err}
use Rattle.key_merge.specs.Merging.{AreConflicts, IsMerged}
use Rattle.key_merge.specs.declared.strategies.Strategy.{Strategy}
use Rattle.key_merge.specs.declared.strategies.Strategy.TheVariants.{Abort}
use Rattle.kdb_handle.specs.declared.merging.MergeEnd.{MergeEnd}
use Rattle.kdb_handle.specs.declared.merging.MergeEnd.TheVariants as merge_end
use Rattle.kdb_handle.specs.declared.merging.Tried.{Tried}
use Rattle.kdb_handle.specs.declared.setting.SetFault.{SetFault}
use Rattle.kdb_handle.specs.declared.setting.SetFault.TheVariants as set_fault
use Rattle.model_maps.specs.KeyMap.{KeyMap}
use Rattle.model_names.specs.Name.{Name}
use Rattle.model_store.specs.Records.{Record}
use Rattle.model_store.specs.Sets.{kept}
use Rattle.set_split.specs.Involved.{involved_in}
use Rattle.set_split.specs.Parts.{in_reach, left_aside}
use Rattle.set_split.specs.Union.{IsUnion}
use Rattle.store_core.specs.declared.committing.CommitFault.TheVariants as commit_fault
use Rattle.store_core.specs.declared.committing.Done.{Done}

-- keys are those that a record keeps of the mounts that a parent involves
abbrev pub IsKept : List Name → Name → Record → KeyMap → Type 0
IsKept points parent rec keys = IsUnion (over (kept rec) (involved_in points parent)) keys

-- a set is made of ours, by a base and theirs: merged where an involved mount owns the name, and as ours everywhere
-- else
pub record IsRemade (points : List Name) (parent : Name) (strategy : Strategy) (base ours theirs remade : KeyMap) : Type 0 where
  pub reached : IsMerged strategy base (in_reach points parent ours) theirs (in_reach points parent remade)
  pub aside : left_aside points parent remade ≡ left_aside points parent ours

-- none is made: under abort, of what the involved mounts own, these are the names in conflict
pub record AreInTheWay (points : List Name) (parent : Name) (strategy : Strategy) (base ours theirs : KeyMap) (names : List Name) : Type 0 where
  pub abort : strategy ≡ Abort
  pub conflicts : AreConflicts base (in_reach points parent ours) theirs names

-- One try leads from a state and the keys that it tries to the next state, and to the keys that are tried next, of
-- which the rest holds
pub record LeadsOn {S : Type 0} (IsTry : S → KeyMap → Tried → S → KeyMap → Type 0) (old : S) (ours : KeyMap) (item : Tried) (Rest : S → KeyMap → Type 0) : Type 0 where
  pub mid : S
  pub next : KeyMap
  pub is_try : IsTry old ours item mid next
  pub rest : Rest mid next

-- tries one after another, by what one try is
abbrev pub AreTries : {S : Type 0} → (S → KeyMap → Tried → S → KeyMap → Type 0) → S → KeyMap → List Tried → S → KeyMap → Type 0
AreTries IsTry old ours [] new last = (new ≡ old) × (last ≡ ours)
AreTries IsTry old ours (item ∷ items) new last =
    LeadsOn IsTry old ours item (λ mid next. AreTries IsTry mid next items new last)

-- ---- one try, and the end of them all

-- the caller's keys become those that were stored, and stay where none were
abbrev pub keys_after : KeyMap → KeyMap → Result Done MergeEnd → KeyMap
keys_after ours last (Ok done) = last
keys_after ours last (Err end) = ours

-- a refusal is no conflict
abbrev pub IsOther : SetFault → Type 0
IsOther (set_fault.Commit (commit_fault.Conflict mount by front)) = ⊥
IsOther why = Unit {0}

-- one try: a set that met the conflict of an item, with the get behind it, and what is made of ours by both
pub record IsTryBy {S : Type 0} (IsRetry : S → KeyMap → Tried → S → KeyMap → KeyMap → Type 0) (points : List Name) (parent : Name) (strategy : Strategy) (old : S) (ours : KeyMap) (item : Tried) (new : S) (next : KeyMap) : Type 0 where
  pub base : KeyMap
  pub theirs : KeyMap
  pub retry : IsRetry old ours item new base theirs
  pub remade : IsRemade points parent strategy base ours theirs next

-- a try that has no merge behind its get: something else holds of the base and of theirs
pub record IsCutBy {S : Type 0} (IsRetry : S → KeyMap → Tried → S → KeyMap → KeyMap → Type 0) (last : S) (keys : KeyMap) (made : List Tried) (new : S) (tried : List Tried) (Unmade : KeyMap → KeyMap → Type 0) : Type 0 where
  pub item : Tried
  pub tried_is : tried ≡ made ++ item ∷ []
  pub base : KeyMap
  pub theirs : KeyMap
  pub retry : IsRetry last keys item new base theirs
  pub unmade : Unmade base theirs

-- How a merged set ends behind the tries that it made, the last of which led to a state and some keys. The keys are
-- stored; or the set met a conflict, and it was the last of the tries; or it was refused for another reason; or no set
-- is made of them behind the get of one more item; or there was no memory, behind such a get or before it
abbrev pub IsEndBy : {S : Type 0} → (S → KeyMap → Tried → S → KeyMap → KeyMap → Type 0) → (S → S → KeyMap → Result Done SetFault → Type 0) → (S → S → Type 0)
    → List Name → Name → Strategy → ℕ → S → KeyMap → List Tried → S → List Tried → Result Done MergeEnd → Type 0
IsEndBy IsRetry IsSet IsIdle points parent strategy tries last keys made new tried (Ok done) =
    (tried ≡ made) × IsSet last new keys (Ok done)
IsEndBy IsRetry IsSet IsIdle points parent strategy tries last keys made new tried (Err (merge_end.TriesSpent mount by front)) =
    (tried ≡ made) × IsSet last new keys (Err (set_fault.Commit (commit_fault.Conflict mount by front))) × (length tried + 1 ≡ tries)
IsEndBy IsRetry IsSet IsIdle points parent strategy tries last keys made new tried (Err (merge_end.Set why)) =
    (tried ≡ made) × IsSet last new keys (Err why) × IsOther why
IsEndBy IsRetry IsSet IsIdle points parent strategy tries last keys made new tried (Err (merge_end.MergeConflicts names)) =
    IsCutBy IsRetry last keys made new tried (λ base theirs. AreInTheWay points parent strategy base keys theirs names)
IsEndBy IsRetry IsSet IsIdle points parent strategy tries last keys made new tried (Err merge_end.Memory) =
    ((tried ≡ made) × IsIdle last new) ⊎ IsCutBy IsRetry last keys made new tried (λ base theirs. Unit {0})

-- A merged set: the tries that were made lead to the state and the keys that its end speaks of. There are fewer items
-- than tries
pub record IsMergedBy {S : Type 0} (IsRetry : S → KeyMap → Tried → S → KeyMap → KeyMap → Type 0) (IsSet : S → S → KeyMap → Result Done SetFault → Type 0) (IsIdle : S → S → Type 0)
    (points : List Name) (parent : Name) (strategy : Strategy) (tries : ℕ) (old : S) (ours : KeyMap) (new : S) (after : KeyMap) (tried : List Tried) (end : Result Done MergeEnd) : Type 0 where
  pub made : List Tried
  pub last : S
  pub keys : KeyMap
  pub retries : AreTries (IsTryBy IsRetry points parent strategy) old ours made last keys
  pub fewer : length tried < tries
  pub ends : IsEndBy IsRetry IsSet IsIdle points parent strategy tries last keys made new tried end
  pub after_is : after ≡ keys_after ours keys end
