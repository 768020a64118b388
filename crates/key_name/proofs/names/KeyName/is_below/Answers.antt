use Rattle.std.proofs.Common.{length, ap, ◌∙◌, arith}
use Rattle.std.proofs.lemmas.Bool.{ltb-true}
use Rattle.model_names.specs.Name.{Name}
use Rattle.model_names.specs.Spelling.{path}
use Rattle.key_name.proofs.WellFormedLemmas.{below_is_longer}
use Rattle.key_name.proofs.names.KeyName.is_below.Goals as goal

pub returns-else-self-above : goal.returns-else-self-above
returns-else-self-above c =
    let own = c.self.invariant.bytes ∙ ap (λ (name : Name). length (path name)) c.self.view_is in
    let other = c.above.invariant.bytes ∙ ap (λ (name : Name). length (path name)) c.above.view_is in
    ((λ e. let less = ltb-true _ _ e in absurd (omega (arith, less, c.if-self-above.false))), (λ below. let longer = below_is_longer c.args.self.now c.args.above.now below in absurd (omega (arith, own, other, longer, c.if-self-above.false))))
