use Rattle.std.proofs.Common.{[], ◌∷◌, length}
use Rattle.model_crashes.proofs.Reached.{reached_more, reached_begun}
use Rattle.model_crashes.proofs.a_run_only_reaches_more.Goals as goal

pub returns-clause-begun : goal.returns-clause-begun
returns-clause-begun c run entry later image reached =
    reached_begun run.files run.commits run.begun ((length run.commits, entry) ∷ []) image reached

pub returns-clause-commit : goal.returns-clause-commit
returns-clause-commit c run entry image reached =
    reached_more run.files run.commits (entry ∷ []) run.begun ((length run.commits, entry) ∷ []) image reached
