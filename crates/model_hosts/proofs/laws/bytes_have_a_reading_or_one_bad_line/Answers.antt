use Rattle.model_hosts.proofs.Lawful.{hosts-lawful}
use Rattle.model_hosts.proofs.laws.bytes_have_a_reading_or_one_bad_line.Goals as goal

pub returns-clause-some : goal.returns-clause-some
returns-clause-some c = hosts-lawful.reads_or_bad

pub returns-clause-not_both : goal.returns-clause-not_both
returns-clause-not_both c = hosts-lawful.read_is_not_bad

pub returns-clause-one_line : goal.returns-clause-one_line
returns-clause-one_line c = hosts-lawful.one_line
