use Rattle.std.proofs.Common.{◌==◌, sym, ap, ◌∙◌}
use Rattle.std.specs.List.{list_any}
use Rattle.std.proofs.lemmas.Result.{IfOk-weaker}
use Rattle.key_name.proofs.WalkLemmas.{unescaped-bare}
use Rattle.key_name.proofs.walking.unescaped.Goals as goal

pub returns-else-contains : goal.returns-else-contains
returns-else-contains c =
    let none = ap (list_any (λ b. b == 92)) (sym c.as_bytes.ensures.value) ∙ sym c.contains.ensures.value ∙ c.if-contains.false in
    IfOk-weaker c.from_str.result _ _ (λ text e part h. e ∙ unescaped-bare c.args.raw.now part none h) c.from_str.ensures.ok
