-- What is kept beside the journal stays.
use Rattle.std.proofs.Common.{ap, refl}
use Rattle.intent_journal.specs.Journal.{JournalValue}
use Rattle.store_core.proofs.cores.Core.flush.Goals as goal

pub returns : goal.returns
returns g c = record {
  none = λ empty.
      let still = c.flush.ensures.none empty in
      (ap (λ (j : JournalValue g.row.D.Denot). record c.args.self.now { journal = j }) still.0, still.1);
  some = c.flush.ensures.some;
  history = refl;
  start = refl;
  keys = refl;
  wrote = refl;
  patterns = refl;
  on_disk = c.flush.ensures.store;
  written = c.flush.ensures.settled;
  any_moment = c.flush.ensures.any_moment;
  goes = c.flush.ensures.goes;
  cause = c.flush.ensures.cause;
}
