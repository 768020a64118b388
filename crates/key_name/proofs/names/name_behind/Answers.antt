use Rattle.std.proofs.Common.{subst, Option}
use Rattle.std.specs.Option.{IfSome}
use Rattle.model_names.specs.Name.{Name}
use Rattle.model_names.specs.Spells.{Spells}
use Rattle.model_names.proofs.RefusesLemmas.{refusal_of-spelled}
use Rattle.key_name.specs.Raws.{text_behind}
use Rattle.key_name.proofs.names.name_behind.Goals as goal

pub returns-in-Some-clause-accepted : goal.returns-in-Some-clause-accepted
returns-in-Some-clause-accepted c =
    let spells : Spells (text_behind c.args.namespace c.args.path.now) c.in-Some.name = subst (λ (found : Option Name). IfSome found (λ name. Spells (text_behind c.args.namespace c.args.path.now) name)) c.in-Some.is c.in_ok-name.ensures in
    refusal_of-spelled _ _ spells
