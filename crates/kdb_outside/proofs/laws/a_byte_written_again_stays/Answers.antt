-- A torn write keeps a byte that was written over with itself.
use Rattle.kdb_outside.proofs.SteadyBytes.{HasByte-written_again}
use Rattle.kdb_outside.proofs.laws.a_byte_written_again_stays.Goals as goal

pub returns : goal.returns
returns g c =
    λ at bytes i value within is touches each. HasByte-written_again _ at bytes _ _ i value within is touches each
