use Rattle.std.proofs.Common.{rules}
use Rattle.std.proofs.lemmas.Bool.Decides.{Decides-at}
use Rattle.model_names.proofs.BelowLemmas.{is_at_or_below-Decides}
use Rattle.key_name.proofs.names.KeyName.is_below_or_same.Goals as goal

pub returns-then-same_namespace-clause-test : goal.returns-then-same_namespace-clause-test
returns-then-same_namespace-clause-test c = search rules

pub returns-then-same_namespace-clause-relation : goal.returns-then-same_namespace-clause-relation
returns-then-same_namespace-clause-relation c =
    Decides-at c.starts_with.result _ (returns-then-same_namespace-clause-test c) (is_at_or_below-Decides c.args.above.now c.args.self.now)
