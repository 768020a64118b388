-- What a commit answers, as the definitions of a store have it. (This project's own.)
use Rattle.std.specs.Prelude.{◌≡◌, ℕ, ◌+◌, Bool, true, false, List, length, slice_get, Option, Some, Result, Ok, Err}
use Rattle.std.specs.Option.{option_map}
use Rattle.model_history.specs.History.{Commit}
use Rattle.model_maps.specs.KeyMap.{KeyMap}
use Rattle.model_names.specs.Name.{Name}
use Rattle.model_store.specs.Events as event
use Rattle.model_store.specs.Sets.{Prepared}
use Rattle.model_store.specs.Store.{Store, Formats}
use Rattle.model_store.specs.Verdicts as late
use Rattle.mount_table.specs.declared.mounts.Mount.{Mount}
use Rattle.store_core.specs.declared.committing.CommitFault.{CommitFault}
use Rattle.store_core.specs.declared.committing.CommitFault.TheVariants.{Conflict, FileTooLarge, Invalid, DatabaseFull, HistoryFull, DiskFault, Memory}
use Rattle.store_core.specs.declared.committing.Done.{Done}
use Rattle.store_core.specs.declared.committing.Done.TheVariants.{Committed, Same}

-- the mountpoint of a mount by its number
abbrev pub point_at : List Mount → ℕ → Option Name
point_at mounts m = option_map (λ mount. mount.at) (slice_get mounts m)

-- the answer to a commit of a set that found so many commits, by whether the matcher's count of refusals rose; a mount
-- is told by its mountpoint
abbrev pub IsAnswer : List Mount → Bool → ℕ → Prepared → Result Done CommitFault → event.Answer → Type 0
IsAnswer mounts risen found set (Ok (Committed number aside)) answer =
    (number ≡ found + 1) × (answer ≡ event.Judged found (late.Commits (late.commit_of set) aside))
IsAnswer mounts risen found set (Ok (Same front aside)) answer = answer ≡ event.Judged front (late.Same aside)
IsAnswer mounts risen found set (Err (Conflict mount by front)) answer =
    (m : ℕ) × (point_at mounts m ≡ Some mount) × (answer ≡ event.Judged front (late.Conflict m by))
IsAnswer mounts risen found set (Err (FileTooLarge mount bytes front)) answer =
    (m : ℕ) × (point_at mounts m ≡ Some mount) × (answer ≡ event.Judged front (late.TooLarge m bytes))
IsAnswer mounts risen found set (Err (Invalid violation front)) answer =
    answer ≡ event.Judged front (late.Invalid violation risen)
IsAnswer mounts risen found set (Err (DatabaseFull weight front)) answer =
    answer ≡ event.Judged front (late.DatabaseFull weight)
IsAnswer mounts risen found set (Err (HistoryFull weight front)) answer =
    answer ≡ event.Judged front (late.HistoryFull weight)
IsAnswer mounts risen found set (Err (DiskFault front)) answer = answer ≡ event.Failed front
IsAnswer mounts risen found set (Err Memory) answer = answer ≡ event.Memory

-- what the history decides of a set, by the answer to its commit, whatever the disk tells: it decides before the disk
-- is touched
abbrev pub IsJudged : Formats → Store → Bool → List Commit → KeyMap → Prepared → Result Done CommitFault → Type 0
IsJudged formats store risen history keys set (Ok (Committed number aside)) =
    (number ≡ length history + 1) × late.IsLate formats store history keys set (late.Commits (late.commit_of set) aside)
IsJudged formats store risen history keys set (Ok (Same front aside)) =
    (front ≡ length history) × late.IsLate formats store history keys set (late.Same aside)
IsJudged formats store risen history keys set (Err (Conflict mount by front)) =
    (m : ℕ) × (point_at store.mounts m ≡ Some mount) × (front ≡ length history) × late.IsLate formats store history keys set (late.Conflict m by)
IsJudged formats store risen history keys set (Err (FileTooLarge mount bytes front)) =
    (m : ℕ) × (point_at store.mounts m ≡ Some mount) × (front ≡ length history) × late.IsLate formats store history keys set (late.TooLarge m bytes)
IsJudged formats store risen history keys set (Err (Invalid violation front)) =
    (front ≡ length history) × late.IsLate formats store history keys set (late.Invalid violation risen)
IsJudged formats store risen history keys set (Err (DatabaseFull weight front)) =
    (front ≡ length history) × late.IsLate formats store history keys set (late.DatabaseFull weight)
IsJudged formats store risen history keys set (Err (HistoryFull weight front)) =
    (front ≡ length history) × late.IsLate formats store history keys set (late.HistoryFull weight)
IsJudged formats store risen history keys set (Err (DiskFault front)) =
    (aside : ℕ) × (front ≡ length history) × late.IsLate formats store history keys set (late.Commits (late.commit_of set) aside)
IsJudged formats store risen history keys set (Err Memory) = Unit {0}

-- an answer before which the disk was written: the commit is stored, or a fault came amid it
abbrev pub has_written : Result Done CommitFault → Bool
has_written (Ok (Committed number aside)) = true
has_written (Ok (Same front aside)) = false
has_written (Err (Conflict mount by front)) = false
has_written (Err (FileTooLarge mount bytes front)) = false
has_written (Err (Invalid violation front)) = false
has_written (Err (DatabaseFull weight front)) = false
has_written (Err (HistoryFull weight front)) = false
has_written (Err (DiskFault front)) = true
has_written (Err Memory) = false

-- a conflict at the mount of a number, or want of memory for its name
abbrev pub IsConflict : List Mount → ℕ → ℕ → ℕ → CommitFault → Type 0
IsConflict mounts m by front Memory = Unit {0}
IsConflict mounts m by front (Conflict mount number found) =
    (point_at mounts m ≡ Some mount) × (number ≡ by) × (found ≡ front)
IsConflict mounts m by front why = ⊥

-- too large a file at the mount of a number, or want of memory for its name
abbrev pub IsTooLarge : List Mount → ℕ → ℕ → ℕ → CommitFault → Type 0
IsTooLarge mounts m bytes front Memory = Unit {0}
IsTooLarge mounts m bytes front (FileTooLarge mount size found) =
    (point_at mounts m ≡ Some mount) × (size ≡ bytes) × (found ≡ front)
IsTooLarge mounts m bytes front why = ⊥
