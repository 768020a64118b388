use Rattle.std.proofs.Common.{false}
use Rattle.model_names.proofs.PartLemmas.{slashed-raw_parts}
use Rattle.model_names.proofs.RawCutLemmas.{AreCut-raw_parts}
use Rattle.model_names.proofs.laws.raw_parts_are_cut_at_bare_slashes.Goals as goal

pub returns-clause-joined : goal.returns-clause-joined
returns-clause-joined c = slashed-raw_parts false

pub returns-clause-cut : goal.returns-clause-cut
returns-clause-cut c = AreCut-raw_parts
