use Rattle.model_ini.proofs.Lawful.{ini-lawful}
use Rattle.model_ini.proofs.laws.what_reads_is_storable.Goals as goal

pub returns-clause-storable : goal.returns-clause-storable
returns-clause-storable c = ini-lawful.read_is_storable

pub returns-clause-limited : goal.returns-clause-limited
returns-clause-limited c = ini-lawful.read_is_limited
