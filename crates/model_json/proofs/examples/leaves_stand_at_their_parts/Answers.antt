use Rattle.std.proofs.Common.{refl}
use Rattle.std.specs.Fmt.{digits}
use Rattle.model_json.proofs.examples.leaves_stand_at_their_parts.Goals as goal

pub returns-clause-members : goal.returns-clause-members
unfolding digits
returns-clause-members c = refl
