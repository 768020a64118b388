use Rattle.model_dump.proofs.AddsOnce.{Adds-once}
use Rattle.model_dump.proofs.a_record_adds_one_way.Goals as goal

pub returns : goal.returns
returns c = Adds-once
