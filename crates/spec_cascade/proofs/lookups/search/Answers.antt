use Rattle.std.proofs.Common.{◌∙◌}
use Rattle.spec_cascade.proofs.CandidateLemmas.{first_found}
use Rattle.spec_cascade.proofs.lookups.search.Goals as goal

pub returns : goal.returns
returns c =
    first_found c.args.keys.now c.args.path.now.parts c.in_ok-said.said c.in_ok-default.default c.as_slice.result.now c.first_present.result c.in_ok-said.ensures c.in_ok-default.ensures
    (c.as_slice.ensures.value ∙ c.in_ok-names.ensures) c.first_present.ensures
