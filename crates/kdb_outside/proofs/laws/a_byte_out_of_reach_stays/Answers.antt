-- Each content came from a former one by a step that keeps the byte.
use Rattle.kdb_outside.proofs.SteadyBytes.{HasByte-before_write, HasByte-behind_write, HasByte-before_cut}
use Rattle.kdb_outside.proofs.laws.a_byte_out_of_reach_stays.Goals as goal

pub returns-clause-before_write : goal.returns-clause-before_write
returns-clause-before_write g c =
    λ at bytes place value outside touches each. HasByte-before_write _ at bytes _ _ place value outside touches each

pub returns-clause-behind_write : goal.returns-clause-behind_write
returns-clause-behind_write g c =
    λ at bytes place value outside touches each. HasByte-behind_write _ at bytes _ _ place value outside touches each

pub returns-clause-before_cut : goal.returns-clause-before_cut
returns-clause-before_cut g c =
    λ new_length place value outside touches each. HasByte-before_cut _ new_length _ _ place value outside touches each
