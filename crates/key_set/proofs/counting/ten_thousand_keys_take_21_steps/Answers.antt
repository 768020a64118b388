use Rattle.key_set.proofs.StepLemmas.{many_steps, no_steps}
use Rattle.key_set.proofs.counting.ten_thousand_keys_take_21_steps.Goals as goal

pub returns-clause-many : goal.returns-clause-many
returns-clause-many c = many_steps

pub returns-clause-none : goal.returns-clause-none
returns-clause-none c = no_steps
