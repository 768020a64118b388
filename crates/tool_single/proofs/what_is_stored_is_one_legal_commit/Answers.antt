use Rattle.tool_single.proofs.LegalLemmas.{stores_one}
use Rattle.tool_single.proofs.what_is_stored_is_one_legal_commit.Goals as goal

pub returns : goal.returns
returns c = stores_one (λ _. Unit {0})
