-- How the rooms of all sessions are shown as the transcripts of a script, which names the sessions of a phase that have
-- steps there. (This project's own.)
use Rattle.std.specs.Prelude.{◌≢◌, ℕ, ◌<◌, nat_eq, if◌then◌else◌, List, [], ◌∷◌, length, get_or, map as over, All}
use Rattle.batch_script.specs.Rising.{AreAscending}
use Rattle.batch_script.specs.declared.steps.Phase.{Phase}
use Rattle.batch_script.specs.declared.steps.Script.{Script}
use Rattle.batch_script.specs.declared.steps.Steps.{Steps}
use Rattle.kdb_handle.specs.declared.replies.Reply.{Reply}

-- the number of a session that a phase names
abbrev pub number_of : Steps → ℕ
number_of steps = steps.session

-- in each phase of a script the sessions that it names ascend
abbrev pub IsOrdered : Script → Type 0
IsOrdered script = All (λ (phase : Phase). AreAscending phase.sessions) script.phases

-- the sessions that a phase names have different numbers
abbrev pub IsApart : List Steps → Type 0
IsApart phase =
    (i j : ℕ) (d : Steps) → i < j → j < length phase → number_of (get_or phase i d) ≢ number_of (get_or phase j d)

-- so they have in each phase
abbrev pub AreApart : List Phase → Type 0
AreApart phases = (p : ℕ) (d : Phase) → p < length phases → IsApart (get_or phases p d).sessions

-- in a row of replies, one list for each session of these numbers, what stands for a number
abbrev pub told_at : List ℕ → List (List Reply) → ℕ → List Reply
told_at [] row number = []
told_at (n ∷ ns) [] number = []
told_at (n ∷ ns) (told ∷ row) number = if nat_eq n number then told else told_at ns row number

-- what a phase shows of a row: the replies of each session that it names
abbrev pub shown_row : List ℕ → List (List Reply) → List Steps → List (List Reply)
shown_row numbers row phase = over (λ (steps : Steps). told_at numbers row steps.session) phase

abbrev pub shown_rows : List ℕ → List Phase → List (List (List Reply)) → List (List (List Reply))
shown_rows numbers [] rows = []
shown_rows numbers (phase ∷ phases) [] = []
shown_rows numbers (phase ∷ phases) (row ∷ rows) = shown_row numbers row phase.sessions ∷ shown_rows numbers phases rows
