-- Each turn exchanges one place more.
use Rattle.std.proofs.Common.{◌∙◌, ap, arith, get_or}
use Rattle.std.proofs.lemmas.List.{get_or_default}
use Rattle.batch_run.specs.declared.workers.Worker.{Worker}
use Rattle.batch_run.proofs.Growing.{exchanged-next, left-next}
use Rattle.batch_run.proofs.exchanges.exchange.Goals as goal

pub loop-place-preserved : goal.loop-place-preserved
loop-place-preserved c =
    let was = c.loop-place.invariant in
    let k = c.loop-place.place in
    let workers = c.loop-place.workers in
    let rooms = c.loop-place.rooms in
    let worker = get_or workers k c.index-workers-place.result in
    let new : Worker = record { session = worker.session; told = c.swap.new.x } in
    record {
      done = exchanged-next workers rooms c.args.workers.now c.args.rooms.now k new c.swap.new.y (omega arith) (omega (arith, c.requires)) was.done (λ d e.
          let from = get_or_default workers k c.index-workers-place.result d (omega arith) ∙ was.workers k d (omega arith) in
          let room = get_or_default rooms k c.index-rooms-place.result e (omega (arith, c.requires)) ∙ was.rooms k e (omega arith) in record {
            session = ap (λ (w : Worker). w.session) from;
            told = c.swap.ensures.x_after ∙ room;
            left_is = c.swap.ensures.y_after ∙ ap (λ (w : Worker). w.told) from;
          });
      workers = left-next workers c.args.workers.now k new was.workers;
      rooms = left-next rooms c.args.rooms.now k c.swap.new.y was.rooms;
    }
