-- The step goes into the room of the session that was named last.
use Rattle.std.proofs.Common.{◌-◌, refl, sym, ap, ◌∙◌, arith}
use Rattle.std.specs.Prelude.{is_some}
use Rattle.std.proofs.lemmas.List.{length-set}
use Rattle.batch_script.proofs.ProgressLemmas.{progress-step, room-here, room-other}
use Rattle.batch_script.proofs.progress.add_step.Goals as goal

pub returns : goal.returns
returns c items h =
    let rooms = c.args.progress.now.rooms.items in
    let session = c.in-Some.session in
    let numbered = rw c.in-Some.is at h.numbered in
    let room = c.push.new.self in (
      ap is_some (sym h.named ∙ c.in-Some.is),
      progress-step c.args.progress.now _ items c.args.step session h c.in-Some.is refl refl refl refl
          (length-set rooms (session - 1) room)
          (λ i d lt other. room-other rooms (session - 1) i room d (λ e. other (omega (arith, e, numbered.0))))
          (λ i d lt here. room-here rooms (session - 1) i room c.index_mut.result.now d _ (omega (arith, here)) (omega (arith, lt, here, h.rooms.many)) (c.index_mut.ensures.value) c.in_ok-push.ensures.items),
    )
