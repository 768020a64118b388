use Rattle.model_dump.specs.Adds.{Adds}
use Rattle.model_dump.proofs.AddsOnce.{Adds-once}
use Rattle.model_dump.proofs.Readings.{Reads-once}
use Rattle.model_dump.proofs.bytes_read_as_one_map.Goals as goal

pub returns : goal.returns
returns c = Reads-once Adds Adds-once
