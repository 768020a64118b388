use Rattle.model_hosts.proofs.Lawful.{hosts-lawful}
use Rattle.model_hosts.proofs.laws.what_reads_is_storable.Goals as goal

pub returns-clause-storable : goal.returns-clause-storable
returns-clause-storable c = hosts-lawful.read_is_storable

pub returns-clause-limited : goal.returns-clause-limited
returns-clause-limited c = hosts-lawful.read_is_limited
