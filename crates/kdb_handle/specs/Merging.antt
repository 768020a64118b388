-- What a merged set of a handle does: tries that met a conflict and were merged, one after another, and then its end,
-- each a turn of the handle. (This project's own.)
use Rattle.std.specs.Prelude.{◌≡◌, ℕ, ◌<◌, List, [], ◌∷◌, ◌++◌, map as over, Result, Ok, Err}
use mathlib.Core.List.{IsPrefix}
use Rattle.key_merge.specs.declared.strategies.Strategy.{Strategy}
use Rattle.kdb_handle.specs.Gets.{IsGotAt}
use Rattle.kdb_handle.specs.Handles.{HandleValue}
use Rattle.kdb_handle.specs.Opened.{store_at}
use Rattle.kdb_handle.specs.Remaking.{IsCutBy, IsEndBy, IsKept, IsMergedBy, IsTryBy}
use Rattle.kdb_handle.specs.Sets.{IsSet, IsStored}
use Rattle.kdb_handle.specs.Story.{commits_of}
use Rattle.kdb_handle.specs.declared.merging.Attempt.{Attempt}
use Rattle.kdb_handle.specs.declared.merging.Attempt.TheVariants as attempt
use Rattle.kdb_handle.specs.declared.merging.MergeEnd.{MergeEnd}
use Rattle.kdb_handle.specs.declared.merging.MergeEnd.TheVariants as merge_end
use Rattle.kdb_handle.specs.declared.merging.MergeFault.{MergeFault}
use Rattle.kdb_handle.specs.declared.merging.Merging.{Merging}
use Rattle.kdb_handle.specs.declared.merging.Tried.{Tried}
use Rattle.kdb_handle.specs.declared.setting.SetFault.{SetFault}
use Rattle.model_history.specs.History.{replay}
use Rattle.model_maps.specs.KeyMap.{KeyMap}
use Rattle.model_names.specs.Name.{Name}
use Rattle.model_store.specs.Legal.{IsLegal}
use Rattle.model_store.specs.Store.{Formats, points_of, store_of}
use Rattle.mounted_files.specs.declared.files.MountedFile.{MountedFile}
use Rattle.set_split.specs.Parts.{in_reach}
use Rattle.store_core.specs.declared.committing.CommitFault.TheVariants as commit_fault
use Rattle.store_core.specs.declared.committing.Done.{Done}
use Rattle.store_core.specs.declared.getting.Got.{Got}
use Rattle.store_verdict.specs.RecordView.{proc_of, record_of}

-- what a call answers: the tries that it tells, and its end
abbrev pub tried_in : Result Merging MergeFault → List Tried
tried_in (Ok merging) = merging.tried
tried_in (Err fault) = fault.tried

abbrev pub end_of : Result Merging MergeFault → Result Done MergeEnd
end_of (Ok merging) = Ok merging.done
end_of (Err fault) = Err fault.end

-- the numbers of the commits that were in the way, of the tries and of the last one
abbrev pub in_the_way : List Tried → Result Done MergeEnd → List ℕ
in_the_way tried (Err (merge_end.TriesSpent mount by front)) = over (λ item. item.by) tried ++ by ∷ []
in_the_way tried end = over (λ item. item.by) tried

-- numbers rise, from one that lies below the first
abbrev pub Rise : ℕ → List ℕ → Type 0
Rise before [] = Unit {0}
Rise before (number ∷ numbers) = (before < number) × Rise number numbers

-- A set that met the conflict of an item, and the get behind it, which finds a legal history; both leave the number.
-- The base is what the record kept of the involved mounts before that get, and theirs is what these mounts have in the
-- commits that it found
pub record IsRetry (formats : Formats) (files : List MountedFile) (parent : Name) (old : HandleValue) (ours : KeyMap) (item : Tried) (new : HandleValue) (base theirs : KeyMap) : Type 0 where
  pub between : HandleValue
  pub stored : IsStored formats files old between parent ours (Err (commit_fault.Conflict item.mount item.by item.front))
  pub numbered : between.number ≡ old.number
  pub base_is : IsKept (points_of (store_at files)) parent (record_of between.rec) base
  pub number : new.number ≡ between.number
  pub proc : proc_of new.rec ≡ proc_of between.rec
  pub seen : IsPrefix between.seen new.seen
  pub own : new.own ≡ between.own
  pub legal : IsLegal formats (store_at files) (commits_of new.seen)
  pub got : Got
  pub is_got : (procs : ℕ → KeyMap) → procs between.number ≡ proc_of between.rec
      → IsGotAt (store_of files procs) files (commits_of new.seen) between.number parent (record_of between.rec) (record_of new.rec) (Ok got)
  pub again : item.again ≡ got.front
  pub theirs_is : theirs
      ≡ in_reach (points_of (store_at files)) parent (replay (store_at files).start (commits_of new.seen))

-- one try of a handle
abbrev pub IsTry : Formats → List MountedFile → Name → Strategy → HandleValue → KeyMap → Tried → HandleValue → KeyMap → Type 0
IsTry formats files parent strategy =
    IsTryBy (IsRetry formats files parent) (points_of (store_at files)) parent strategy

-- one that has no merge behind its get
abbrev pub IsCut : Formats → List MountedFile → Name → HandleValue → KeyMap → List Tried → HandleValue → List Tried → (KeyMap → KeyMap → Type 0) → Type 0
IsCut formats files parent = IsCutBy (IsRetry formats files parent)

-- a handle did nothing, though it may have seen more
pub record IsIdle (old new : HandleValue) : Type 0 where
  pub seen : IsPrefix old.seen new.seen
  pub own : new.own ≡ old.own
  pub kept : record_of new.rec ≡ record_of old.rec

-- a set of a handle
abbrev pub IsSetAt : Formats → List MountedFile → Name → HandleValue → HandleValue → KeyMap → Result Done SetFault → Type 0
IsSetAt formats files parent last new keys result = IsSet formats files last new parent keys result

-- how a call ends behind the tries that it made
abbrev pub IsEnd : Formats → List MountedFile → Name → Strategy → ℕ → HandleValue → KeyMap → List Tried → HandleValue → List Tried → Result Done MergeEnd → Type 0
IsEnd formats files parent strategy =
    IsEndBy (IsRetry formats files parent) (IsSetAt formats files parent) IsIdle (points_of (store_at files)) parent strategy

-- one try more was made
pub record IsAgain (formats : Formats) (files : List MountedFile) (parent : Name) (strategy : Strategy) (last : HandleValue) (keys : KeyMap) (made : List Tried) (new : HandleValue) (tried : List Tried) (next : KeyMap) : Type 0 where
  pub item : Tried
  pub tried_is : tried ≡ made ++ item ∷ []
  pub is_try : IsTry formats files parent strategy last keys item new next

-- what one attempt comes to that isn't the last one
abbrev pub IsAttempt : Formats → List MountedFile → Name → Strategy → ℕ → HandleValue → KeyMap → List Tried → HandleValue → List Tried → Result Attempt MergeEnd → Type 0
IsAttempt formats files parent strategy tries last keys made new tried (Ok (attempt.Stored done)) =
    IsEnd formats files parent strategy tries last keys made new tried (Ok done)
IsAttempt formats files parent strategy tries last keys made new tried (Ok (attempt.Again next)) =
    IsAgain formats files parent strategy last keys made new tried next
IsAttempt formats files parent strategy tries last keys made new tried (Err (merge_end.TriesSpent mount by front)) = ⊥
IsAttempt formats files parent strategy tries last keys made new tried (Err (merge_end.Set why)) =
    IsEnd formats files parent strategy tries last keys made new tried (Err (merge_end.Set why))
IsAttempt formats files parent strategy tries last keys made new tried (Err (merge_end.MergeConflicts names)) =
    IsEnd formats files parent strategy tries last keys made new tried (Err (merge_end.MergeConflicts names))
IsAttempt formats files parent strategy tries last keys made new tried (Err merge_end.Memory) =
    IsEnd formats files parent strategy tries last keys made new tried (Err merge_end.Memory)

-- a merged set of a handle
abbrev pub IsMergedSet : Formats → List MountedFile → Name → Strategy → ℕ → HandleValue → KeyMap → HandleValue → KeyMap → List Tried → Result Done MergeEnd → Type 0
IsMergedSet formats files parent strategy =
    IsMergedBy (IsRetry formats files parent) (IsSetAt formats files parent) IsIdle (points_of (store_at files)) parent strategy
