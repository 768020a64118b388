-- A core that was just opened stands for its opening, and all seats but the last are free.
use Rattle.std.proofs.Common.{ap, arith, rules}
use Rattle.kdb_handle.proofs.SharedLemmas.{shared_first}
use Rattle.model_maps.specs.KeyMap.{no_keys}
use Rattle.kdb_handle.proofs.stores.NewStore.new.Goals as goal
use Rattle.model_store.specs.Store.{formats_of}

pub new-requires-clause-story : goal.new-requires-clause-story
new-requires-clause-story g c =
    shared_first (formats_of g.F.Formats) g.D.Disk g.row.D.coded g.P.Patterns.refusals c.args.plan.mounted c.of.result.value.mounted c.args.core (ap (λ p. p.mounted) c.of.ensures) (c.requires.world (λ r. no_keys))

pub returns-in-Ok : goal.returns-in-Ok
returns-in-Ok g c =
    let lock = c.in-Ok.field-0.lock in
    let new = c.in-Ok.ensures.seats in
    let all = c.of_new.ensures.all in
    let count = new.count in
    let seats = c.in-Ok.ensures.lock.0 in record {
      plan = search rules;
      start = search rules;
      started = search rules;
      count = search rules;
      seats = c.of_new.ensures.free lock new;
      all = omega arith;
      flusher = c.of_new.ensures.flusher lock new;
      err = search rules;
    }
