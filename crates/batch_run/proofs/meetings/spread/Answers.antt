-- One more handle meets the first one, which stays as it was.
use Rattle.std.proofs.Common.{◌∙◌, ap, arith, get_or, refl, subst}
use Rattle.std.proofs.lemmas.List.{get_or_default}
use mathlib.Core.List.{IsPrefix}
use Rattle.batch_run.specs.Going.{Meets}
use Rattle.batch_run.specs.declared.workers.Worker.{Worker}
use Rattle.batch_run.proofs.Growing.{done-next, left-next}
use Rattle.kdb_handle.specs.Handles.{HandleValue}
use Rattle.kdb_handle.specs.Views.{lock_of, plan_of}
use Rattle.batch_run.proofs.meetings.spread.Goals as goal

pub loop-other-preserved : goal.loop-other-preserved
loop-other-preserved g c =
    let was = c.loop-other.invariant in
    let k = c.loop-other.other-index in
    let others = c.loop-other.others in
    let other : Worker = get_or others k c.other-item.result in
    let first : Worker = c.loop-other.first in
    let met = c.meet.ensures in
    let new : Worker = record { session = record { number = other.session.number; passed = other.session.passed; handle = c.meet.new.self; workspace = other.session.workspace }; told = other.told } in
    let meets : Meets (lock_of c.args.store.now) (plan_of c.args.store.now) other new = record {
      handle = met.handle;
      number = met.number;
      seen = met.seen.0;
      own = met.own;
      rec = met.rec;
      session = refl;
      workspace = refl;
      told = refl;
    } in
    record {
      first = ap (λ (h : HandleValue). record { session = record { number = first.session.number; passed = first.session.passed; handle = h; workspace = first.session.workspace }; told = first.told }) met.other ∙ was.first;
      met = done-next (λ i d w. Meets (lock_of c.args.store.now) (plan_of c.args.store.now) (get_or c.args.others.now i d) w) others k new (omega arith) was.met (λ d.
          subst (λ (w : Worker). Meets (lock_of c.args.store.now) (plan_of c.args.store.now) w new) (get_or_default others k c.other-item.result d (omega arith) ∙ was.left k d (omega arith)) meets);
      all = done-next (λ i d w. IsPrefix c.args.first.now.session.handle.seen w.session.handle.seen) others k new (omega arith) was.all (λ d.
          subst (λ (w : Worker). IsPrefix w.session.handle.seen c.meet.new.self.seen) was.first met.seen.1);
      left = left-next others c.args.others.now k new was.left;
    }
