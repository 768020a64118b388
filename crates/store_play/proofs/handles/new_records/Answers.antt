-- Handle by handle.
use Rattle.std.proofs.Common.{ℕ, ◌+◌, List, length, sym, ap, subst, ◌∙◌, arith}
use Rattle.std.proofs.lemmas.List.{length_push}
use Rattle.store_play.specs.Handles.{AreHandlesOf, AreNew, IsHandle, IsNew, procs_at}
use Rattle.store_play.proofs.HandleLemmas.{each-next, proc_there}
use Rattle.store_verdict.specs.RecordView.{record_of}
use Rattle.store_verdict.specs.declared.records.Record.{Record}
use Rattle.store_play.proofs.handles.new_records.Goals as goal

pub loop-handle-init : goal.loop-handle-init
loop-handle-init c = record {
  count = ap length c.in_ok-records.ensures.items;
  made = subst (AreHandlesOf c.args.mounts (procs_at c.args.procs.now)) (sym c.in_ok-records.ensures.items) (λ r rec e. absurd cc);
  new = subst AreNew (sym c.in_ok-records.ensures.items) (λ r rec e. absurd cc);
}

pub loop-handle-preserved : goal.loop-handle-preserved
loop-handle-preserved c =
    let rec : Record = c.in_ok-new.field-0 in
    let old : List Record = c.loop-handle.records.items in
    let at = c.loop-handle.invariant.count in
    record {
      count = ap length c.in_ok-push.ensures.items ∙ length_push old rec ∙ ap (λ (n : ℕ). n + 1) at;
      made = subst (AreHandlesOf c.args.mounts (procs_at c.args.procs.now)) (sym c.in_ok-push.ensures.items)
          (each-next (IsHandle c.args.mounts (procs_at c.args.procs.now)) old rec c.loop-handle.invariant.made (subst (λ n. IsHandle c.args.mounts (procs_at c.args.procs.now) n rec) (sym at) (record {
            number = c.in_ok-new.ensures.handle;
            places = omega (arith, c.in_ok-new.ensures.places);
            proc = proc_there c.args.procs.now c.loop-handle.handle c.index-procs-handle.result c.loop-handle-test.true c.index-procs-handle.is ∙ sym c.in_ok-copy.ensures ∙ sym c.in_ok-new.ensures.proc;
          })));
      new = subst AreNew (sym c.in_ok-push.ensures.items)
          (each-next (λ (r : ℕ) (one : Record). IsNew (record_of one)) old rec c.loop-handle.invariant.new (c.in_ok-new.ensures.none, c.in_ok-new.ensures.fresh));
    }

pub returns-clause-made : goal.returns-clause-made
returns-clause-made c = c.loop-handle.invariant.made

pub returns-clause-count : goal.returns-clause-count
returns-clause-count c =
    omega (arith, c.loop-handle.invariant.count, c.loop-handle-test.false, c.loop-handle.auto.handle-end)

pub returns-clause-new : goal.returns-clause-new
returns-clause-new c = c.loop-handle.invariant.new
