use Rattle.std.proofs.Common.{sym}
use Rattle.model_names.proofs.NameOfLemmas.{name_of-spelled}
use Rattle.key_name.proofs.NameOfLemmas.{name_of-fault}
use Rattle.mount_table.proofs.points.name_of.Goals as goal

pub returns-in-Ok : goal.returns-in-Ok
returns-in-Ok c = sym (name_of-spelled c.args.text.now c.in-Ok.name c.in-Ok.ensures.spelled)

pub returns-in_default : goal.returns-in_default
returns-in_default c =
    sym (name_of-fault c.args.text.now c.in-Err.fault c.in_default.not-Memory c.in-Err.ensures.refused)
