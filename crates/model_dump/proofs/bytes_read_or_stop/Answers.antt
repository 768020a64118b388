use Rattle.model_dump.specs.Adds.{Adds}
use Rattle.model_dump.proofs.AddsTold.{Adds-told}
use Rattle.model_dump.proofs.Totality.{Reads-or_else}
use Rattle.model_dump.proofs.bytes_read_or_stop.Goals as goal

pub returns : goal.returns
returns c = Reads-or_else Adds Adds-told
