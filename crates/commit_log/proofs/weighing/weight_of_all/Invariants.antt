-- The weight of the changes so far.
use Rattle.std.proofs.Common.{◌≡◌, take, sum_by}
use Rattle.general_words.specs.Saturated.{saturated}
use Rattle.model_history.specs.History.{weight_of_change}
use Rattle.commit_log.specs.CommitView.{change_of}
use Rattle.commit_log.proofs.weighing.weight_of_all.Given as goal

abbrev pub invariant-loop-change : goal.invariant-loop-change
invariant-loop-change l =
    l.weight ≡ saturated (sum_by (λ change. weight_of_change (change_of change)) (take l.change-index l.changes))
