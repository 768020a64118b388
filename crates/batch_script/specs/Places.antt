-- Where what a line says may stand: a key of a handle in the header, and a step behind a session of its phase.
use Rattle.std.specs.Prelude.{ℕ, Bool, true, false, List, [], ◌∷◌, Option, Some, None, is_some}
use Rattle.std.specs.List.{list_all}
use Rattle.batch_script.specs.declared.items.Item.{Item}
use Rattle.batch_script.specs.declared.items.Item.TheVariants.{Proc, Session, Phase, Does}

-- it belongs to the header
abbrev pub is_proc : Item → Bool
is_proc (Proc line) = true
is_proc (Session session) = false
is_proc Phase = false
is_proc (Does step) = false

-- the session that the last session line of a phase names, behind some items of it
abbrev pub session_behind : Option ℕ → List Item → Option ℕ
session_behind named [] = named
session_behind named (Proc line ∷ items) = session_behind named items
session_behind named (Session session ∷ items) = session_behind (Some session) items
session_behind named (Phase ∷ items) = session_behind None items
session_behind named (Does step ∷ items) = session_behind named items

-- an item may stand behind some others
abbrev pub may_follow : List Item → Item → Bool
may_follow before (Proc line) = list_all is_proc before
may_follow before (Session session) = true
may_follow before Phase = true
may_follow before (Does step) = is_some (session_behind None before)
