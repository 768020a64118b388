-- The four parts of a phase are the phase.
use Rattle.std.proofs.Common.{◌∙◌, arith}
use Rattle.std.proofs.lemmas.List.{length-map}
use Rattle.batch_run.specs.Workers.{number_in}
use Rattle.batch_run.proofs.Through.{home-handles, ready-all, ready-rooms, through}
use Rattle.kdb_handle.specs.Views.{lock_of, plan_of}
use Rattle.batch_run.proofs.phases.one_phase.Goals as goal
use Rattle.model_store.specs.Store.{formats_of}

pub exchange-requires : goal.exchange-requires
exchange-requires g c = c.requires.rooms.many ∙ length-map c.args.workers.now number_in

pub take_all-requires-clause-ready : goal.take_all-requires-clause-ready
take_all-requires-clause-ready g c κs within = λ i d lt.
    ready-all (lock_of c.args.store.now) (plan_of c.args.store.now) c.args.workers.now c.exchange.new.workers c.args.rooms.now c.exchange.new.rooms (c.requires.rooms.many ∙ length-map c.args.workers.now number_in) c.requires.resting c.exchange.ensures i d (omega arith)

pub take_all-requires-clause-rooms : goal.take_all-requires-clause-rooms
take_all-requires-clause-rooms g c κs within =
    λ i d lt. ready-rooms c.args.phase.now c.args.workers.now c.exchange.new.workers c.args.rooms.now c.exchange.new.rooms c.requires.rooms c.exchange.ensures i d (omega arith)

pub meet_all-requires : goal.meet_all-requires
meet_all-requires g c = λ i d lt.
    home-handles (formats_of g.F.Formats) (lock_of c.args.store.now) (plan_of c.args.store.now) c.args.phase.now c.exchange.new.workers c.take_all.new.workers
    c.exchange-2.new.workers c.exchange.new.rooms c.exchange-2.new.rooms (omega arith) (omega (arith, c.requires.rooms.many, length-map c.args.workers.now number_in)) c.take_all.ensures.works c.exchange-2.ensures i d (omega arith)

pub returns-clause-through : goal.returns-clause-through
returns-clause-through g c =
    let rooms = c.requires.rooms.many ∙ length-map c.args.workers.now number_in in
    through (formats_of g.F.Formats) (lock_of c.args.store.now) (plan_of c.args.store.now) c.args.phase.now c.args.workers.now c.exchange.new.workers
    c.take_all.new.workers c.exchange-2.new.workers c.meet_all.new.workers c.args.rooms.now c.exchange.new.rooms c.exchange-2.new.rooms
    (record {
      given_many = omega arith;
      taken_many = omega arith;
      back_many = omega arith;
      new_many = omega arith;
      rooms_many = rooms;
      left_many = omega (arith, rooms);
      shown_many = omega (arith, rooms);
      resting = c.requires.resting;
      out = c.exchange.ensures;
      works = c.take_all.ensures.works;
      home = c.exchange-2.ensures;
      meets = c.meet_all.ensures.each;
      all = c.meet_all.ensures.all;
    })
