-- The first handle meets one more, which stays as it was.
use Rattle.std.proofs.Common.{◌∙◌, ap, arith, get_or, set}
use Rattle.std.proofs.lemmas.List.{set-get_or}
use mathlib.Core.List.{IsPrefix}
use Rattle.batch_run.specs.declared.workers.Worker.{Worker}
use Rattle.batch_run.proofs.Growing.{all-next}
use Rattle.kdb_handle.specs.Handles.{HandleValue}
use Rattle.seat_lock.proofs.Prefixes.{prefix-trans}
use Rattle.batch_run.proofs.meetings.gather.Goals as goal

pub loop-other-preserved : goal.loop-other-preserved
loop-other-preserved g c =
    let was = c.loop-other.invariant in
    let k = c.loop-other.other-index in
    let others = c.loop-other.others in
    let other : Worker = get_or others k c.other-item.result in
    let first : Worker = c.loop-other.first in
    let met = c.meet.ensures in
    record {
      first = record {
        handle = met.handle;
        number = met.number ∙ was.first.number;
        seen = prefix-trans c.args.first.now.session.handle.seen first.session.handle.seen c.meet.new.self.seen was.first.seen met.seen.0;
        own = met.own ∙ was.first.own;
        rec = met.rec ∙ was.first.rec;
        session = was.first.session;
        workspace = was.first.workspace;
        told = was.first.told;
      };
      others =
          ap (λ (h : HandleValue). set others k (record { session = record { number = other.session.number; passed = other.session.passed; handle = h; workspace = other.session.workspace }; told = other.told })) met.other
          ∙ set-get_or others k c.other-item.result ∙ was.others;
      all =
          all-next (λ (w : Worker). IsPrefix w.session.handle.seen c.meet.new.self.seen) others c.args.others.now k c.other-item.result (omega arith) was.others
          (λ i d lt. prefix-trans (get_or c.args.others.now i d).session.handle.seen first.session.handle.seen c.meet.new.self.seen (was.all i d lt) met.seen.0) met.seen.1;
    }
