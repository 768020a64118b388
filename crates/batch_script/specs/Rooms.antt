-- The sessions of a phase, where each session has a room with its steps. (This project's own.)
use Rattle.std.specs.Prelude.{ℕ, ◌+◌, List, [], ◌∷◌, ◌++◌}
use Rattle.std.specs.Option.{option_to_list}
use Rattle.std.specs.declared.alloc.Global.{Global}
use Rattle.std.specs.declared.vec.Vec.{Vec}
use Rattle.batch_script.specs.declared.steps.Step.{Step}
use Rattle.batch_script.specs.declared.steps.Steps.{Steps}
use Rattle.batch_script.specs.Phases.{with_steps}

-- the sessions with steps, from one on
abbrev pub gathered : ℕ → List (Vec Step Global) → List Steps
gathered session [] = []
gathered session (room ∷ rooms) = option_to_list (with_steps session room.items) ++ gathered (session + 1) rooms
