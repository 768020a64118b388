use Rattle.std.proofs.Common.{sym, ◌∙◌}
use Rattle.std.proofs.lemmas.Result.{IfOk-weaker}
use Rattle.key_name.proofs.WalkLemmas.{part_of_text-array, part_of_text-plain}
use Rattle.key_name.proofs.walking.part_of_text.Goals as goal

pub returns-in-Some : goal.returns-in-Some
returns-in-Some c =
    IfOk-weaker c.array_part.result _ _ (λ text e part h. e ∙ sym (part_of_text-array c.args.raw.now c.in-Some.digits.now part c.in-Some.ensures.like c.in-Some.ensures.digits h)) c.array_part.ensures

pub returns-in-None : goal.returns-in-None
returns-in-None c =
    IfOk-weaker c.unescaped.result _ _ (λ text e part h. e part (part_of_text-plain c.args.raw.now part c.in-None.ensures.none h)) c.unescaped.ensures
