use Rattle.std.proofs.Common.{true, nat_eq, sym, ap, ◌∙◌}
use Rattle.model_names.specs.declared.namespaces.Namespace.TheVariants.{Default}
use Rattle.model_names.specs.Name.{rank}
use Rattle.plugin_chain.proofs.OneNameLemmas.{made_told}
use Rattle.plugin_chain.proofs.one_name.may_be_made.Goals as goal

pub returns-then-is_default : goal.returns-then-is_default
returns-then-is_default c =
    made_told c.args.name.now true c.has_glob.result
    (sym c.if-is_default.true ∙ c.is_default.ensures ∙ ap (λ n. nat_eq (rank n) (rank Default)) c.namespace.ensures) c.has_glob.ensures
