-- What is merged leads from a name to others, and so do the names in conflict.
use Rattle.std.proofs.Common.{◌≡◌, All, sym, ap, subst, ◌∙◌}
use Rattle.std.proofs.lemmas.Result.{IfOk-weaker}
use Rattle.model_names.specs.Name.{Name}
use Rattle.model_names.specs.declared.namespaces.Namespace.TheVariants.{Cascading}
use Rattle.key_set.specs.Whole.{relative}
use Rattle.tool_commands.specs.Commands.Merging.{conflicts_told}
use Rattle.tool_commands.proofs.MergeLemmas.{all-below_root, conflicts-of, conflicts-ways, merged-of, merged-set, merged-told, merged-ways, refused-conflicts, sound-cascading}
use Rattle.tool_commands.proofs.commands.merging.merge.Goals as goal

pub set_merged-requires : goal.set_merged-requires
set_merged-requires c =
    all-below_root c.in-Ok.merged (merged-ways c.args.strategy c.in_ok-base.base c.in_ok-our.our c.in_ok-their.their c.in-Ok.merged (sound-cascading c.args.our.now c.in_ok-our.our c.in_ok-our.ensures.sound) (sound-cascading c.args.their.now c.in_ok-their.their c.in_ok-their.ensures.sound) c.in-Ok.ensures.merged)

pub returns-in-Ok-clause-step : goal.returns-in-Ok-clause-step
returns-in-Ok-clause-step c =
    let keys = c.args.keys in
    let is = merged-of c.args.strategy c.in_ok-base.base c.in_ok-our.our c.in_ok-their.their (relative c.args.base.now keys) (relative c.args.our.now keys) (relative c.args.their.now keys) c.in-Ok.merged c.in_ok-base.ensures.is c.in_ok-our.ensures.is c.in_ok-their.ensures.is c.in-Ok.ensures.merged in
    IfOk-weaker c.set_merged.result _ _ (λ step seen. seen ∙ merged-set c.args.strategy c.args.our.now c.args.their.now c.args.base.now c.args.into.now keys c.in-Ok.merged is) c.set_merged.ensures.step

pub tell_all-requires : goal.tell_all-requires
tell_all-requires c =
    let found = refused-conflicts c.args.strategy c.in_ok-base.base c.in_ok-our.our c.in_ok-their.their c.in-Err-Conflicts.field-0 c.in-Err-Conflicts.names c.in-Err-Conflicts.field-0-is c.in-Err-Conflicts.ensures.conflicts in
    subst (All (λ (name : Name). name.namespace ≡ Cascading)) (sym c.as_slice.ensures) (conflicts-ways c.in_ok-base.base c.in_ok-our.our c.in_ok-their.their c.in-Err-Conflicts.names (sound-cascading c.args.our.now c.in_ok-our.our c.in_ok-our.ensures.sound) (sound-cascading c.args.their.now c.in_ok-their.their c.in_ok-their.ensures.sound) found.1)

pub returns-in-Err-Conflicts-clause-step : goal.returns-in-Err-Conflicts-clause-step
returns-in-Err-Conflicts-clause-step c =
    let keys = c.args.keys in
    let found = refused-conflicts c.args.strategy c.in_ok-base.base c.in_ok-our.our c.in_ok-their.their c.in-Err-Conflicts.field-0 c.in-Err-Conflicts.names c.in-Err-Conflicts.field-0-is c.in-Err-Conflicts.ensures.conflicts in
    let are = conflicts-of c.in_ok-base.base c.in_ok-our.our c.in_ok-their.their (relative c.args.base.now keys) (relative c.args.our.now keys) (relative c.args.their.now keys) c.in-Err-Conflicts.names c.in_ok-base.ensures.is c.in_ok-our.ensures.is c.in_ok-their.ensures.is found.1 in
    IfOk-weaker c.tell_all.result _ _ (λ step seen. seen ∙ ap (conflicts_told c.args.into.now) c.as_slice.ensures ∙ merged-told c.args.strategy c.args.our.now c.args.their.now c.args.base.now c.args.into.now keys c.in-Err-Conflicts.names found.0 are) c.tell_all.ensures.step
