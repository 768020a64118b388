-- What the code keeps of the lines so far. (This project's own.)
use Rattle.std.specs.Prelude.{◌≡◌, ◌≤◌, ◌+◌, ◌<◌, ℕ, Bool, true, false, List, [], ◌∷◌, ◌++◌, length, map, filter_map, slice_index_or, None, IfSome}
use Rattle.std.specs.List.{list_all}
use Rattle.std.specs.declared.alloc.Global.{Global}
use Rattle.std.specs.declared.vec.Vec.{Vec}
use Rattle.batch_script.specs.declared.items.Item.{Item}
use Rattle.batch_script.specs.declared.progress.Progress.{Progress}
use Rattle.batch_script.specs.declared.steps.Step.{Step}
use Rattle.batch_script.specs.Rows.{most_sessions}
use Rattle.batch_script.specs.Places.{is_proc, session_behind, may_follow}
use Rattle.batch_script.specs.Phases.{phases_of, phase_of, proc_of, steps_behind}
use Rattle.batch_script.specs.Scripts.{Adds}

-- a room for each session, with its steps among some items
pub record HasRooms (rooms : List (Vec Step Global)) (items : List Item) : Type 0 where
  pub many : length rooms ≡ most_sessions
  pub each : (i : ℕ) (d : Vec Step Global) → i < most_sessions
      → (slice_index_or rooms i d).items ≡ steps_behind (i + 1) None items

-- the code keeps what some items say
pub record IsProgress (progress : Progress) (items : List Item) : Type 0 where
  pub over : List (List Item)
  pub latest : List Item
  pub cut : phases_of items ≡ over ++ latest ∷ []
  pub proc : progress.proc.items ≡ filter_map proc_of items
  pub phases : progress.phases.items ≡ map phase_of over
  pub rooms : HasRooms progress.rooms.items latest
  pub named : progress.named ≡ session_behind None items
  pub named_here : progress.named ≡ session_behind None latest
  pub numbered : IfSome progress.named (λ session. (1 ≤ session) × (session ≤ most_sessions))
  pub header : progress.is_header ≡ list_all is_proc items

-- it keeps what some items say
abbrev pub IsKept : Progress → Type 0
IsKept progress = (items : List Item) × IsProgress progress items

-- a line that was read adds to what was said, and one that wasn't adds nothing
abbrev pub GoesOn : Progress → List Item → List ℕ → Bool → Type 0
GoesOn progress items line true = (after : List Item) × Adds items line after × IsProgress progress after
GoesOn progress items line false = (after : List Item) → Adds items line after → ⊥

-- so for what a line says
abbrev pub Follows : Progress → List Item → Item → Bool → Type 0
Follows progress items item true = (may_follow items item ≡ true) × IsProgress progress (items ++ item ∷ [])
Follows progress items item false = may_follow items item ≡ false
