use Rattle.model_crashes.proofs.Reached.{files_of-commit}
use Rattle.model_crashes.proofs.a_commit_adds_its_entry.Goals as goal

pub returns : goal.returns
returns c run entry = files_of-commit run entry
