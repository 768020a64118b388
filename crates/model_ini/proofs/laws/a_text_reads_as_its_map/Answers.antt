use Rattle.model_ini.proofs.Lawful.{ini-lawful}
use Rattle.model_ini.proofs.laws.a_text_reads_as_its_map.Goals as goal

pub returns : goal.returns
returns c = ini-lawful.text_reads
