-- By the kind of the step.
use Rattle.std.proofs.Common.{[], ◌∷◌, sym, subst}
use Rattle.std.specs.FinMap as map
use Rattle.batch_script.specs.declared.steps.Step.{Step}
use Rattle.batch_script.specs.declared.steps.Step.TheVariants as step
use Rattle.key_edits.specs.Edits.{put_meta, put_value}
use Rattle.model_maps.specs.KeyMap.{not_below}
use Rattle.model_store.specs.Store.{Formats, formats_of}
use Rattle.batch_run.specs.Stepping.{GoesOn}
use Rattle.batch_run.specs.declared.workspaces.Workspace.{Workspace}
use Rattle.batch_run.proofs.EditLemmas.{edit-goes, look-goes}
use Rattle.batch_run.proofs.WatchTurns.{watch-goes}
use Rattle.batch_run.proofs.turns.take_step.Goals as goal

pub returns-in-Put : goal.returns-in-Put
returns-in-Put g c =
    let formats : Formats = formats_of g.F.Formats in
    let store = c.args.store.now in
    let old = c.args.handle.now in
    let before = c.args.workspace.now in
    let after : Workspace = record before { keys = c.put.new.working } in
    let taken : Step = step.Put c.in-Put.name c.in-Put.value in
    subst (λ (s : Step). GoesOn formats store.lock store.plan (s ∷ []) (c.put.result ∷ []) old before old after) (sym c.in-Put.is)
    (edit-goes formats store.lock store.plan old before c.put.new.working taken c.put.result (put_value before.keys c.in-Put.name c.in-Put.value) c.requires (λ told watching means. means) c.put.ensures)

pub returns-in-MetaStep : goal.returns-in-MetaStep
returns-in-MetaStep g c =
    let formats : Formats = formats_of g.F.Formats in
    let store = c.args.store.now in
    let old = c.args.handle.now in
    let before = c.args.workspace.now in
    let after : Workspace = record before { keys = c.set_meta.new.working } in
    let taken : Step = step.MetaStep c.in-MetaStep.name c.in-MetaStep.meta c.in-MetaStep.value in
    subst (λ (s : Step). GoesOn formats store.lock store.plan (s ∷ []) (c.set_meta.result ∷ []) old before old after) (sym c.in-MetaStep.is)
    (edit-goes formats store.lock store.plan old before c.set_meta.new.working taken c.set_meta.result (put_meta before.keys c.in-MetaStep.name c.in-MetaStep.meta c.in-MetaStep.value) c.requires (λ told watching means. means) c.set_meta.ensures)

pub returns-in-Del : goal.returns-in-Del
returns-in-Del g c =
    let formats : Formats = formats_of g.F.Formats in
    let store = c.args.store.now in
    let old = c.args.handle.now in
    let before = c.args.workspace.now in
    let after : Workspace = record before { keys = c.delete.new.working } in
    let taken : Step = step.Del c.in-Del.name in
    subst (λ (s : Step). GoesOn formats store.lock store.plan (s ∷ []) (c.delete.result ∷ []) old before old after) (sym c.in-Del.is)
    (edit-goes formats store.lock store.plan old before c.delete.new.working taken c.delete.result (map.remove before.keys c.in-Del.name) c.requires (λ told watching means. means) c.delete.ensures)

pub returns-in-Cut : goal.returns-in-Cut
returns-in-Cut g c =
    let formats : Formats = formats_of g.F.Formats in
    let store = c.args.store.now in
    let old = c.args.handle.now in
    let before = c.args.workspace.now in
    let after : Workspace = record before { keys = c.cut.new.working } in
    let taken : Step = step.Cut c.in-Cut.name in
    subst (λ (s : Step). GoesOn formats store.lock store.plan (s ∷ []) (c.cut.result ∷ []) old before old after) (sym c.in-Cut.is)
    (edit-goes formats store.lock store.plan old before c.cut.new.working taken c.cut.result (not_below c.in-Cut.name before.keys) c.requires (λ told watching means. means) c.cut.ensures)

pub returns-in-Look : goal.returns-in-Look
returns-in-Look g c =
    let formats : Formats = formats_of g.F.Formats in
    let store = c.args.store.now in
    let old = c.args.handle.now in
    let before = c.args.workspace.now in
    subst (λ (s : Step). GoesOn formats store.lock store.plan (s ∷ []) (c.look.result ∷ []) old before old before) (sym c.in-Look.is)
    (look-goes formats store.lock store.plan old before c.in-Look.name c.look.result c.requires c.look.ensures)

pub returns-in-Watch : goal.returns-in-Watch
returns-in-Watch g c =
    let formats : Formats = formats_of g.F.Formats in
    let store = c.args.store.now in
    let old = c.args.handle.now in
    let before = c.args.workspace.now in
    let after = c.watch.new.workspace in
    subst (λ (s : Step). GoesOn formats store.lock store.plan (s ∷ []) (c.watch.result ∷ []) old before old after) (sym c.in-Watch.is)
    (watch-goes formats store.lock store.plan old before c.in-Watch.parent c.in-Watch.room c.requires after c.watch.result c.watch.ensures)
