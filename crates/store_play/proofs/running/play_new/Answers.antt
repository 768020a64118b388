-- New handles hold on a store that was just opened.
use Rattle.std.proofs.Common.{None}
use Rattle.model_store.specs.Store.{formats_of}
use Rattle.model_store.specs.Worlds.{first_world}
use Rattle.store_play.specs.Handles.{places_in, procs_at, records_in}
use Rattle.store_play.proofs.RunLemmas.{holds_first, new_played}
use Rattle.store_play.proofs.running.play_new.Goals as goal

pub play-requires : goal.play-requires
play-requires g c =
    let made = c.in_ok-handles.handles in
    let is = c.requires.stands in
    record {
      holding = record {
        procs = procs_at c.args.procs.now;
        opened = is.0;
        known = λ p. None;
        world = first_world;
        run = is.1;
        holds = holds_first (formats_of g.F.Formats) g.D.Disk c.args.plan.now.mounted c.args.procs.now is.0 c.args.core.now is.1 is.2 (records_in made) (places_in made) c.in_ok-handles.ensures.handles c.in_ok-handles.ensures.new c.in_ok-handles.ensures.empty;
      };
    }

pub returns-clause-played : goal.returns-clause-played
returns-clause-played g c opened run stands =
    let made = c.in_ok-handles.handles in
    let records = records_in made in
    let places = places_in made in
    let holds = holds_first (formats_of g.F.Formats) g.D.Disk c.args.plan.now.mounted c.args.procs.now opened c.args.core.now run stands records places c.in_ok-handles.ensures.handles c.in_ok-handles.ensures.new c.in_ok-handles.ensures.empty in
    new_played (formats_of g.F.Formats) g.D.Disk c.args.plan.now.mounted c.args.procs.now opened c.args.core.now run stands records places c.in_ok-handles.ensures.handles c.in_ok-handles.ensures.new c.in_ok-handles.ensures.empty
    c.args.events.now c.play.result c.play.new.core (records_in c.play.new.handles) (places_in c.play.new.handles) c.args.places c.in_ok-handles.ensures.count c.in_ok-handles.ensures.places
    (c.play.ensures.played (procs_at c.args.procs.now) opened (λ p. None) first_world run holds)
