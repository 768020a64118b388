use Rattle.model_ini.proofs.Lawful.{ini-lawful}
use Rattle.model_ini.proofs.simpleini_is_lawful.Goals as goal

pub returns : goal.returns
returns c = ini-lawful
