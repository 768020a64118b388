-- The script of what lines say.
use Rattle.std.specs.Prelude.{ℕ, Bool, false, ◌==◌, if◌then◌else◌, List, [], ◌∷◌, map, filter_map, Option, Some, None}
use Rattle.std.specs.List.{onto_first, range_with_len}
use Rattle.batch_script.specs.declared.items.Item.{Item}
use Rattle.batch_script.specs.declared.items.Item.TheVariants.{Proc, Session, Phase, Does}
use Rattle.batch_script.specs.declared.steps.ProcLine.{ProcLine}
use Rattle.batch_script.specs.declared.steps.Step.{Step}
use Rattle.batch_script.specs.declared.steps.Steps.{Steps}
use Rattle.batch_script.specs.declared.steps.Phase as phase
use Rattle.batch_script.specs.declared.steps.Script.{Script}
use Rattle.batch_script.specs.Rows.{most_sessions}

-- the items of each phase: they are cut at each end of a phase
abbrev pub phases_of : List Item → List (List Item)
phases_of [] = [] ∷ []
phases_of (Proc line ∷ items) = onto_first (Proc line) (phases_of items)
phases_of (Session session ∷ items) = onto_first (Session session) (phases_of items)
phases_of (Phase ∷ items) = [] ∷ phases_of items
phases_of (Does step ∷ items) = onto_first (Does step) (phases_of items)

-- a named session is this one
abbrev pub names : Option ℕ → ℕ → Bool
names None session = false
names (Some named) session = named == session

-- the steps of a session in a phase, behind the one that was named last
abbrev pub steps_behind : ℕ → Option ℕ → List Item → List Step
steps_behind session named [] = []
steps_behind session named (Proc line ∷ items) = steps_behind session named items
steps_behind session named (Session other ∷ items) = steps_behind session (Some other) items
steps_behind session named (Phase ∷ items) = steps_behind session None items
steps_behind session named (Does step ∷ items) =
    if names named session then step ∷ steps_behind session named items else steps_behind session named items

-- a session with its steps, where it has some
abbrev pub with_steps : ℕ → List Step → Option Steps
with_steps session [] = None
with_steps session (step ∷ steps) = Some (record { session = session; steps = step ∷ steps })

-- a phase has the sessions with steps, ascending
abbrev pub phase_of : List Item → phase.Phase
phase_of items =
    record {
      sessions = filter_map (λ session. with_steps session (steps_behind session None items)) (range_with_len 1 most_sessions);
    }

-- the key that a handle is opened with
abbrev pub proc_of : Item → Option ProcLine
proc_of (Proc line) = Some line
proc_of (Session session) = None
proc_of Phase = None
proc_of (Does step) = None

-- the script of all items
abbrev pub script_of : List Item → Script
script_of items = record { proc = filter_map proc_of items; phases = map phase_of (phases_of items) }
