-- What a batch prints: the replies of its sessions, phase by phase, and the history that its sets made. (This project's
-- own.)
use Rattle.std.specs.Prelude.{ℕ, ◌+◌, ◌-◌, List, [], ◌∷◌, ◌++◌, length, map as over, filter_map, slice_get, slice_index, Some, None, codes}
use Rattle.std.specs.FinMap as map
use Rattle.std.specs.Fmt.{decimal}
use Rattle.std.specs.List.{flat_map}
use Rattle.std.specs.Option.{option_map}
use Rattle.batch_script.specs.declared.steps.Phase.{Phase}
use Rattle.batch_script.specs.declared.steps.Script.{Script}
use Rattle.batch_script.specs.declared.steps.Steps.{Steps}
use Rattle.kdb_handle.specs.declared.replies.Reply.{Reply}
use Rattle.kdb_print.specs.Replies.{lines_of_reply}
use Rattle.model_history.specs.Changes.{Change}
use Rattle.model_history.specs.History.{Commit}
use Rattle.model_lines.specs.Lines.{ended}
use Rattle.model_maps.specs.Entry.{Entry}
use Rattle.model_names.specs.Name.{Name}
use Rattle.model_quoting.specs.Quoted.{quoted, shown}
use Rattle.mount_table.specs.declared.mounts.Mount.{Mount}

-- the sessions of a phase that have steps: a line with the session's number, and those of its replies
abbrev pub lines_of_sessions : List Steps → List (List Reply) → List (List ℕ)
lines_of_sessions [] replies = []
lines_of_sessions (steps ∷ others) [] = []
lines_of_sessions (steps ∷ others) (replies ∷ rest) =
    (codes "session " ++ decimal steps.session) ∷ (flat_map lines_of_reply replies ++ lines_of_sessions others rest)

-- the phases from a number on: a line with the phase's number, and those of its sessions
abbrev pub lines_of_phases : ℕ → List Phase → List (List (List Reply)) → List (List ℕ)
lines_of_phases number [] replies = []
lines_of_phases number (phase ∷ phases) [] = []
lines_of_phases number (phase ∷ phases) (replies ∷ rest) =
    (codes "phase " ++ decimal number) ∷ (lines_of_sessions phase.sessions replies ++ lines_of_phases (number + 1) phases rest)

-- a metadata of a key that a change gives
abbrev pub line_of_meta : List ℕ × List ℕ → List ℕ
line_of_meta (name, text) = codes ". " ++ (quoted name ++ (32 ∷ quoted text))

-- a key with its value, and behind it a line for each of its metadata, in the order of their names
abbrev pub lines_of_key : Name → Entry → List (List ℕ)
lines_of_key name entry =
    (codes "+ " ++ (shown name ++ (32 ∷ quoted entry.value))) ∷ over line_of_meta (map.entries entry.meta)

-- a key that is removed
abbrev pub line_of_removal : Name → List ℕ
line_of_removal name = codes "- " ++ shown name

-- a change: the key with its new entry, or its removal
abbrev pub lines_of_change : Change → List (List ℕ)
lines_of_change (name, Some entry) = lines_of_key name entry
lines_of_change (name, None) = line_of_removal name ∷ []

-- the session whose handle has a number: handles are numbered from 1 in the order of the sessions
abbrev pub session_of : List ℕ → ℕ → ℕ
session_of sessions handle = slice_index sessions (handle - 1)

-- the mountpoints of some mounts
abbrev pub points_of : List Mount → List ℕ → List Name
points_of mounts touched = filter_map (λ number. option_map (λ mount. mount.at) (slice_get mounts number)) touched

-- the mounts that a commit touched
abbrev pub line_of_touched : List Name → List ℕ
line_of_touched points = codes "touched" ++ flat_map (λ point. 32 ∷ shown point) points

-- a commit: its number and its session, the mounts that it touched, and its changes in the order of their names
abbrev pub lines_of_commit : List Mount → List ℕ → ℕ → Commit → List (List ℕ)
lines_of_commit mounts sessions number commit =
    (codes "commit " ++ (decimal number ++ (codes " by " ++ decimal (session_of sessions commit.handle))))
    ∷ line_of_touched (points_of mounts commit.touched)
    ∷ flat_map lines_of_change commit.changes

-- the commits from a number on
abbrev pub lines_of_commits : List Mount → List ℕ → ℕ → List Commit → List (List ℕ)
lines_of_commits mounts sessions number [] = []
lines_of_commits mounts sessions number (commit ∷ commits) =
    lines_of_commit mounts sessions number commit ++ lines_of_commits mounts sessions (number + 1) commits

-- the history: how many commits there are, and each of them
abbrev pub lines_of_history : List Mount → List ℕ → List Commit → List (List ℕ)
lines_of_history mounts sessions history =
    (codes "history " ++ decimal (length history)) ∷ lines_of_commits mounts sessions 1 history

-- what a batch prints: its phases, the history, and a last line by which its end is known
abbrev pub printed : List Mount → List ℕ → Script → List (List (List Reply)) → List Commit → List ℕ
printed mounts sessions script replies history =
    ended (lines_of_phases 1 script.phases replies ++ (lines_of_history mounts sessions history ++ codes "end" ∷ []))
