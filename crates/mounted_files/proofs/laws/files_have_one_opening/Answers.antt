-- By the laws of the formats.
use Rattle.mounted_files.proofs.OneOpening.{Opens-once}
use Rattle.mounted_files.proofs.SomeOpening.{Opens-some}
use Rattle.mounted_files.proofs.laws.files_have_one_opening.Goals as goal

pub returns-clause-some : goal.returns-clause-some
returns-clause-some g c =
    let formats = g.F.Formats in
    Opens-some formats.reads formats.is_bad_at formats.reads_or_bad

pub returns-clause-one : goal.returns-clause-one
returns-clause-one g c =
    let formats = g.F.Formats in
    Opens-once formats.reads formats.is_bad_at formats.one_reading formats.read_is_not_bad formats.one_line
