-- What the plan makes is for the handle's own number and record.
use Rattle.std.proofs.Common.{ap, ◌∙◌}
use Rattle.kdb_handle.specs.Handles.{HandleValue}
use Rattle.kdb_handle.proofs.HandleLemmas.{made_for, refused_for}
use Rattle.store_verdict.specs.RecordView.{handle_of}
use Rattle.kdb_handle.proofs.handles.Handle.prepare.Goals as goal
use Rattle.model_store.specs.Store.{formats_of}

pub returns-clause-made : goal.returns-clause-made
returns-clause-made g c =
    made_for (formats_of g.F.Formats) c.args.store.now.plan.mounted (handle_of c.self.inside.rec) c.args.self.now.number c.self.inside.rec c.args.self.now.rec
    (c.self.invariant.number ∙ ap (λ (h : HandleValue). h.number) c.self.view_is) (ap (λ (h : HandleValue). h.rec) c.self.view_is) c.args.parent.now c.args.keys.now c.prepare.result c.prepare.ensures.made

pub returns-clause-refused : goal.returns-clause-refused
returns-clause-refused g c =
    refused_for (formats_of g.F.Formats) c.args.store.now.plan.mounted (handle_of c.self.inside.rec) c.args.self.now.number c.self.inside.rec c.args.self.now.rec
    (c.self.invariant.number ∙ ap (λ (h : HandleValue). h.number) c.self.view_is) (ap (λ (h : HandleValue). h.rec) c.self.view_is) c.args.parent.now c.args.keys.now c.prepare.result c.prepare.ensures.refused
