use Rattle.model_dump.proofs.Lawful.{dump-lawful}
use Rattle.model_dump.proofs.laws.dumps_are_lawful.Goals as goal

pub returns : goal.returns
returns c = dump-lawful
