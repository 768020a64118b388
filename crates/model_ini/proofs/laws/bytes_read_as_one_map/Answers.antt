use Rattle.model_ini.proofs.Lawful.{ini-lawful}
use Rattle.model_ini.proofs.laws.bytes_read_as_one_map.Goals as goal

pub returns : goal.returns
returns c = ini-lawful.one_reading
