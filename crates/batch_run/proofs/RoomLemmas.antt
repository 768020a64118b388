-- Rooms that keep the place to show them.
use Rattle.std.proofs.Common.{◌∙◌, ℕ, ◌<◌, ◌≤◌, List, ap, arith, get_or, length, subst, sym}
use Rattle.std.specs.Vec.{vec_capacity}
use Rattle.batch_run.specs.Rooms.{ArePhaseRooms, AreWide, KeepShown}
use Rattle.batch_run.specs.declared.rooms.PhaseRooms.{PhaseRooms}
use Rattle.batch_script.specs.declared.steps.Phase.{Phase}

-- it is as wide as when the rooms were made
pub wide-still : (names : List ℕ) (phases : List Phase) (old new : List PhaseRooms) → KeepShown old new
    → ArePhaseRooms names phases old → AreWide phases new
wide-still names phases old new keep rooms p phase e lt =
    let was : p < length old = omega (arith, keep.many) in
    let at = rooms.each p phase e was in
    let same = keep.each p e was in
    (ap (λ v. v.items) same ∙ at.shown, subst (λ v. length (get_or phases p phase).sessions ≤ vec_capacity v) (sym same) at.wide)
