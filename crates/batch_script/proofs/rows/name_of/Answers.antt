-- The text spells the name.
use Rattle.std.proofs.Common.{sym}
use Rattle.model_names.proofs.NameOfLemmas.{name_of-spelled}
use Rattle.batch_script.proofs.rows.name_of.Goals as goal

pub returns-in-Ok : goal.returns-in-Ok
returns-in-Ok c = sym (name_of-spelled c.args.word.now c.in-Ok.name c.in-Ok.ensures.spelled)
