-- Each kind of record is read by its own function.
use Rattle.std.proofs.Common.{sym, subst}
use Rattle.std.specs.Result.{IfOk}
use Rattle.dump_storage.specs.RecordView.{record_of}
use Rattle.dump_storage.specs.ProgressView.{Steps}
use Rattle.dump_storage.specs.declared.records.Kind.{Kind}
use Rattle.dump_storage.proofs.progress.Progress.add.Goals as goal

pub returns-in-Key-clause-step : goal.returns-in-Key-clause-step
returns-in-Key-clause-step c =
    subst (λ (kind : Kind). IfOk c.add_key.result (Steps c.args.self.now (record_of kind c.args.added.first.now c.args.added.second.now) c.add_key.new.self)) (sym c.in-Key.is) c.add_key.ensures.step

pub returns-in-Meta-clause-step : goal.returns-in-Meta-clause-step
returns-in-Meta-clause-step c =
    subst (λ (kind : Kind). IfOk c.add_meta.result (Steps c.args.self.now (record_of kind c.args.added.first.now c.args.added.second.now) c.add_meta.new.self)) (sym c.in-Meta.is) c.add_meta.ensures.step

pub returns-in-CopyMeta-clause-step : goal.returns-in-CopyMeta-clause-step
returns-in-CopyMeta-clause-step c =
    subst (λ (kind : Kind). IfOk c.copy_meta.result (Steps c.args.self.now (record_of kind c.args.added.first.now c.args.added.second.now) c.copy_meta.new.self)) (sym c.in-CopyMeta.is) c.copy_meta.ensures.step
