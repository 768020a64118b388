-- The rooms of the phase give its sessions, and the next one begins with empty rooms.
use Rattle.std.proofs.Common.{[], length, refl, sym, ap, subst, ◌∙◌, arith}
use Rattle.std.specs.declared.alloc.Global.{Global}
use Rattle.std.specs.declared.vec.Vec.{Vec}
use Rattle.batch_script.specs.declared.steps.Step.{Step}
use Rattle.batch_script.specs.Progresses.{HasRooms}
use Rattle.batch_script.specs.Rooms.{gathered}
use Rattle.batch_script.proofs.ProgressLemmas.{progress-phase}
use Rattle.batch_script.proofs.progress.end_phase.Goals as goal

pub sessions_of-requires : goal.sessions_of-requires
sessions_of-requires c =
    omega (arith, ap (λ (v : Vec (Vec Step Global) Global). length v.items) c.replace-rooms.ensures.value, c.requires.1.rooms.many)

pub returns : goal.returns
returns c items h =
    progress-phase c.args.progress.now _ items c.in_ok-sessions.sessions h
    (c.in_ok-sessions.ensures ∙ ap (λ (v : Vec (Vec Step Global) Global). gathered 1 v.items) c.replace-rooms.ensures.value)
    refl c.in_ok-push.ensures.items
    (subst (λ (v : Vec (Vec Step Global) Global). HasRooms v.items []) (sym c.replace-rooms.ensures.after) c.in_ok-empty_rooms.ensures)
    refl refl
