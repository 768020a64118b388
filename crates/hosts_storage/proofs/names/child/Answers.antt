-- A word that is refused makes no name.
use Rattle.std.proofs.Common.{◌≡◌, rules, subst}
use Rattle.key_name.specs.Refused.{IsChildRefusal}
use Rattle.key_name.proofs.ChildLemmas.{refused-no_name}
use Rattle.hosts_storage.proofs.names.child.Goals as goal

pub returns-in_ok-hand_on_memory-in-Err : goal.returns-in_ok-hand_on_memory-in-Err
returns-in_ok-hand_on_memory-in-Err c =
    let same : c.in-Ok.part.now ≡ c.args.word.now = search rules in
    refused-no_name c.args.above.now c.args.word.now c.in-Err.fault (subst (λ part. IsChildRefusal c.args.above.now part c.in-Err.fault) same c.in-Err.ensures.refused) c.in_ok-hand_on_memory-in-Err.ensures.others
