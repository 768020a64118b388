-- Each turn has the rooms of one phase more.
use Rattle.std.proofs.Common.{◌≡◌, ◌∙◌, ℕ, ◌+◌, ◌<◌, ap, arith, get_or, length, subst, sym}
use Rattle.std.proofs.lemmas.List.{get_or_read, length_push}
use Rattle.batch_script.specs.declared.steps.Phase.{Phase}
use Rattle.batch_run.specs.Rooms.{AreRooms}
use Rattle.batch_run.specs.declared.rooms.PhaseRooms.{PhaseRooms}
use Rattle.batch_run.proofs.Growing.{each-push}
use Rattle.batch_run.proofs.rooms.rooms_of.Goals as goal

pub loop-phase-preserved : goal.loop-phase-preserved
loop-phase-preserved c =
    let was = c.loop-phase.invariant in
    let one = c.in_ok-phase_rooms.field-0 in
    let items = c.in_ok-push.ensures.items in
    let Has : ℕ → PhaseRooms → Type 0 = λ p rooms. (phase : Phase) → AreRooms c.args.numbers.now (get_or c.args.phases.now p phase).sessions rooms in
    let there = subst (λ (k : ℕ). c.phase-item.result ≡ get_or c.args.phases.now k c.phase-item.result) (sym was.many) c.phase-item.is in
    let new : Has (length c.loop-phase.rooms.items) one = λ phase.
    subst (λ (it : Phase). AreRooms c.args.numbers.now it.sessions one) (get_or_read c.args.phases.now (length c.loop-phase.rooms.items) c.phase-item.result (omega (arith, was.many)) there phase)
    (subst (λ ss. AreRooms c.args.numbers.now ss one) c.as_slice.ensures c.in_ok-phase_rooms.ensures) in
    record {
      many = ap length items ∙ length_push c.loop-phase.rooms.items one ∙ ap (λ k. k + 1) was.many;
      each = subst (λ xs. (p : ℕ) (e : PhaseRooms) → p < length xs → Has p (get_or xs p e)) (sym items) (each-push Has c.loop-phase.rooms.items one was.each new);
    }

pub returns : goal.returns
returns c =
    record {
      many = c.loop-phase.invariant.many ∙ omega arith;
      each = λ p phase e lt. c.loop-phase.invariant.each p e lt phase;
    }
