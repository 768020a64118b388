use Rattle.std.specs.Fmt.{digits}
use Rattle.std.proofs.Common.{refl}
use Rattle.model_names.specs.Glob.{Same, Item}
use Rattle.model_names.proofs.examples.globs_match_part_by_part.Goals as goal

pub returns-clause-item : goal.returns-clause-item
unfolding digits
returns-clause-item c = (Item refl refl, (Same refl, tt))
