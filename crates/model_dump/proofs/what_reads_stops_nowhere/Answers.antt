use Rattle.model_dump.specs.Adds.{Adds}
use Rattle.model_dump.proofs.AddsOnce.{Adds-once}
use Rattle.model_dump.proofs.Readings.{Reads-or-stops}
use Rattle.model_dump.proofs.what_reads_stops_nowhere.Goals as goal

pub returns : goal.returns
returns c = Reads-or-stops Adds Adds-once
