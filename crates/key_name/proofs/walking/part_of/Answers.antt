use Rattle.std.proofs.lemmas.Result.{IfOk-weaker}
use Rattle.key_name.proofs.WalkLemmas.{meaning-text}
use Rattle.key_name.proofs.walking.part_of.Goals as goal

pub returns-in_default : goal.returns-in_default
returns-in_default c =
    IfOk-weaker c.part_of_text.result _ _ (λ text e part h. e part (meaning-text c.args.raw.now part c.in_default.not-text c.in_default.not-text-2 c.in_default.not-text-3 c.in_default.not-text-4 h)) c.part_of_text.ensures
