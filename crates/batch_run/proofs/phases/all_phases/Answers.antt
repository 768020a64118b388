-- Each turn goes through one phase more, in the rooms of its place.
use Rattle.std.proofs.Common.{◌≡◌, ◌∙◌, ◌<◌, List, ap, arith, get_or, length, map as over, subst, sym, take}
use Rattle.std.proofs.lemmas.List.{get_or_default, take_all, with_items_is}
use Rattle.std.specs.Global.{Vec}
use Rattle.std.specs.Vec.{with_items}
use Rattle.batch_run.specs.Going.{IsThrough}
use Rattle.batch_run.specs.Rooms.{row_in, told_in}
use Rattle.batch_run.specs.Stands.{Stand, rows_of}
use Rattle.batch_run.specs.Workers.{number_in}
use Rattle.batch_run.specs.declared.rooms.PhaseRooms.{PhaseRooms}
use Rattle.batch_run.proofs.Growing.{done-next, left-next}
use Rattle.batch_run.proofs.Phasing.{phase-next, rest-next}
use Rattle.batch_script.specs.declared.steps.Phase.{Phase}
use Rattle.batch_script.specs.declared.steps.Steps.{Steps}
use Rattle.model_store.specs.Store.{Formats, formats_of}
use Rattle.kdb_handle.specs.Views.{lock_of, plan_of}
use Rattle.kdb_handle.specs.declared.replies.Reply.{Reply}
use Rattle.model_batch.specs.Scripts.{steps_in}
use Rattle.batch_run.proofs.phases.all_phases.Goals as goal

pub loop-place-preserved : goal.loop-place-preserved
loop-place-preserved g c =
    let formats : Formats = formats_of g.F.Formats in
    let lock = lock_of c.args.store.now in
    let plan = plan_of c.args.store.now in
    let was = c.loop-place.invariant in
    let k = c.loop-place.place in
    let rooms = c.loop-place.rooms in
    let phase = c.index-phases-place.result in
    let room = c.index-rooms-place.result in
    let within : k < length rooms = omega (arith, c.requires.rooms.many) in
    let told = c.one_phase.new.rooms in
    let old = (get_or rooms k room).told in
    let new : PhaseRooms = record { told = with_items old told; shown = (get_or rooms k room).shown } in
    let items = with_items_is old told (omega (arith, ap length c.as_mut_slice.ensures.value, c.as_mut_slice.ensures.len)) in
    let before = c.loop-place.workers in
    let after = c.one_phase.new.workers in
    let numbered = over number_in before in
    let through : IsThrough formats lock plan (over (steps_in (get_or c.args.phases.now k phase).sessions) numbered) (row_in new) before after =
    subst (λ (rs : List (Vec Reply)). IsThrough formats lock plan (over (steps_in (get_or c.args.phases.now k phase).sessions) numbered) (over told_in rs) before after) (sym items)
    (subst (λ (ss : List Steps). IsThrough formats lock plan (over (steps_in ss) numbered) (over told_in told) before after) c.as_slice.ensures c.one_phase.ensures.through) in
    record {
      stand = λ procs first. phase-next formats lock plan procs (over number_in c.args.workers.now) c.args.phases.now rooms k phase new before after (omega arith) within (was.stand procs first) was.numbers through;
      flusher = c.one_phase.ensures.flusher;
      numbers = through.numbers ∙ was.numbers;
      resting = rest-next formats lock plan (over (steps_in (get_or c.args.phases.now k phase).sessions) numbered) (row_in new) before after through;
      left = left-next rooms c.args.rooms.now k new was.left;
      shown = done-next (λ q e r. r.shown ≡ (get_or c.args.rooms.now q e).shown) rooms k new within was.shown (λ e. ap (λ (r : PhaseRooms). r.shown) (get_or_default rooms k room e within ∙ was.left k e (omega arith)));
    }

pub returns-clause-stand : goal.returns-clause-stand
returns-clause-stand g c = λ procs first.
    let formats : Formats = formats_of g.F.Formats in
    let names = over number_in c.args.workers.now in
    let k = c.loop-place.place in
    let rooms = c.loop-place.rooms in
    let S = Stand formats (lock_of c.args.store.now) (plan_of c.args.store.now) procs in
    subst (λ (ps : List Phase). S (rows_of names ps) (over row_in rooms) c.loop-place.workers) (take_all k c.args.phases.now (omega arith))
    (subst (λ (rs : List PhaseRooms). S (rows_of names (take k c.args.phases.now)) (over row_in rs) c.loop-place.workers) (take_all k rooms (omega (arith, c.requires.rooms.many))) (c.loop-place.invariant.stand procs first))

pub returns-clause-shown : goal.returns-clause-shown
returns-clause-shown g c =
    record {
      many = omega arith;
      each = λ q e lt. c.loop-place.invariant.shown q e (omega (arith, c.requires.rooms.many));
    }
