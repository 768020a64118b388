-- Fair transcripts of a script, which names the sessions of a phase that have steps there. (This project's own.)
use Rattle.std.specs.Prelude.{◌≡◌, ℕ, nat_eq, ◌-◌, Bool, ◌||◌, if◌then◌else◌, List, [], ◌∷◌, length, filter, map as over, slice_get}
use Rattle.std.specs.FinMap as map
use Rattle.std.specs.List.{list_any, range_with_len}
use Rattle.std.specs.Option.{unwrap_or}
use Rattle.batch_script.specs.Rows.{most_sessions}
use Rattle.batch_script.specs.declared.steps.Phase.{Phase}
use Rattle.batch_script.specs.declared.steps.ProcLine.{ProcLine}
use Rattle.batch_script.specs.declared.steps.Script.{Script}
use Rattle.batch_script.specs.declared.steps.Step.{Step}
use Rattle.batch_script.specs.declared.steps.Steps.{Steps}
use Rattle.kdb_handle.specs.declared.replies.Reply.{Reply}
use Rattle.kdb_handle.specs.declared.replies.Transcripts.{Transcripts}
use Rattle.model_batch.specs.Fair.{IsFair}
use Rattle.model_history.specs.History.{Commit}
use Rattle.model_maps.specs.Entry.{plain_entry}
use Rattle.model_maps.specs.KeyMap.{KeyMap, no_keys}
use Rattle.model_store.specs.Store.{Formats}
use Rattle.mounted_files.specs.declared.files.MountedFile.{MountedFile}

-- ---- the sessions of a script

-- a script has a session: it has a step in some phase, or a key in `proc`
abbrev pub has_session : Script → ℕ → Bool
has_session script session =
    list_any (λ (line : ProcLine). nat_eq line.session session) script.proc
    || list_any (λ (phase : Phase). list_any (λ (steps : Steps). nat_eq steps.session session) phase.sessions) script.phases

-- all of them, ascending. The handle at a place is that of the session there
abbrev pub sessions_of : Script → List ℕ
sessions_of script = filter (has_session script) (range_with_len 1 most_sessions)

-- the session of a handle; handles are numbered from 1
abbrev pub session_at : Script → ℕ → ℕ
session_at script number = unwrap_or (slice_get (sessions_of script) (number - 1)) 0

-- the keys in `proc` that lines give a session; of one name the last is given
abbrev pub keys_by : ℕ → List ProcLine → KeyMap → KeyMap
keys_by session [] keys = keys
keys_by session (line ∷ lines) keys =
    keys_by session lines (if nat_eq line.session session then map.insert keys line.key (plain_entry line.value) else keys)

-- those of a handle
abbrev pub procs_of : Script → ℕ → KeyMap
procs_of script number = keys_by (session_at script number) script.proc no_keys

-- ---- rows

-- the steps of a session in a phase: none where the phase doesn't name it
abbrev pub steps_in : List Steps → ℕ → List Step
steps_in [] session = []
steps_in (steps ∷ sessions) session = if nat_eq steps.session session then steps.steps else steps_in sessions session

-- and its replies
abbrev pub replies_in : List Steps → List (List Reply) → ℕ → List Reply
replies_in [] answers session = []
replies_in (steps ∷ sessions) [] session = []
replies_in (steps ∷ sessions) (one ∷ answers) session =
    if nat_eq steps.session session then one else replies_in sessions answers session

-- a row of steps for each phase, with a list for each session of the script
abbrev pub step_rows : Script → List (List (List Step))
step_rows script = over (λ (phase : Phase). over (steps_in phase.sessions) (sessions_of script)) script.phases

-- and of replies
abbrev pub rows_by : List ℕ → List Phase → List (List (List Reply)) → List (List (List Reply))
rows_by sessions [] answers = []
rows_by sessions (phase ∷ phases) [] = []
rows_by sessions (phase ∷ phases) (one ∷ answers) =
    over (replies_in phase.sessions one) sessions ∷ rows_by sessions phases answers

abbrev pub reply_rows : Script → Transcripts → List (List (List Reply))
reply_rows script transcripts = rows_by (sessions_of script) script.phases transcripts.phases

-- ---- transcripts

-- one list for each session of a phase, with one reply for each step
abbrev pub AnswerEach : List Steps → List (List Reply) → Type 0
AnswerEach [] [] = Unit {0}
AnswerEach [] (one ∷ answers) = ⊥
AnswerEach (steps ∷ sessions) [] = ⊥
AnswerEach (steps ∷ sessions) (one ∷ answers) = (length one ≡ length steps.steps) × AnswerEach sessions answers

-- such lists for each phase
abbrev pub AreTranscripts : List Phase → List (List (List Reply)) → Type 0
AreTranscripts [] [] = Unit {0}
AreTranscripts [] (row ∷ rows) = ⊥
AreTranscripts (phase ∷ phases) [] = ⊥
AreTranscripts (phase ∷ phases) (row ∷ rows) = AnswerEach phase.sessions row × AreTranscripts phases rows

-- transcripts of a script are fair by a history
pub record IsFairScript (formats : Formats) (files : List MountedFile) (history : List Commit) (script : Script) (transcripts : Transcripts) : Type 0 where
  pub each : AreTranscripts script.phases transcripts.phases
  pub fair : IsFair formats files (length (sessions_of script)) (procs_of script) history (step_rows script) (reply_rows script transcripts)
