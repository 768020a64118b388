-- One session more has taken its steps.
use Rattle.std.proofs.Common.{◌∙◌, arith, get_or, subst}
use Rattle.std.proofs.lemmas.List.{get_or_default}
use Rattle.batch_run.specs.Going.{Works}
use Rattle.batch_run.specs.declared.workers.Worker.{Worker}
use Rattle.batch_run.proofs.Growing.{done-next, left-next}
use Rattle.model_store.specs.Store.{Formats, formats_of}
use Rattle.kdb_handle.specs.Views.{lock_of, plan_of}
use Rattle.model_batch.specs.Scripts.{steps_in}
use Rattle.batch_run.proofs.phases.take_in_turn.Goals as goal

pub loop-worker-preserved : goal.loop-worker-preserved
loop-worker-preserved g c =
    let formats : Formats = formats_of g.F.Formats in
    let lock = lock_of c.args.store.now in
    let plan = plan_of c.args.store.now in
    let phase = c.args.phase.now in
    let was = c.loop-worker.invariant in
    let k = c.loop-worker.worker-index in
    let workers = c.loop-worker.workers in
    let new = c.take_own.new.worker in
    record {
      done = done-next (λ i d w. Works formats lock plan (steps_in phase (get_or c.args.workers.now i d).session.number) (get_or c.args.workers.now i d) w) workers k new (omega arith) was.done (λ d.
          subst (λ (w : Worker). Works formats lock plan (steps_in phase w.session.number) w new) (get_or_default workers k c.worker-item.result d (omega arith) ∙ was.left k d (omega arith)) c.take_own.ensures);
      left = left-next workers c.args.workers.now k new was.left;
    }
