-- By the keys of the table's own file.
use Rattle.mounted_files.proofs.SomeOpening.{opened-made}
use Rattle.mounted_files.proofs.laws.opened_files_have_a_table.Goals as goal

pub returns : goal.returns
returns g c = opened-made g.F.Formats.reads g.F.Formats.is_bad_at
