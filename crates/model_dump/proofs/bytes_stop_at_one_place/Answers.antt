use Rattle.model_dump.specs.Adds.{Adds}
use Rattle.model_dump.proofs.AddsOnce.{Adds-once}
use Rattle.model_dump.proofs.Readings.{Stops-once}
use Rattle.model_dump.proofs.bytes_stop_at_one_place.Goals as goal

pub returns : goal.returns
returns c = Stops-once Adds Adds-once
