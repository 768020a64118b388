use Rattle.std.proofs.Common.{map, sym, ap, ◌∙◌}
use Rattle.model_history.specs.Changes.{changed_by}
use Rattle.commit_log.specs.CommitView.{change_of}
use Rattle.commit_log.proofs.LogLemmas.{replay-next}
use Rattle.commit_log.proofs.replaying.make_commits.Goals as goal

pub loop-commit-preserved : goal.loop-commit-preserved
loop-commit-preserved c =
    c.in_ok-make_changes.ensures.ok
    ∙ ap (λ changes. changed_by (map change_of changes) c.loop-commit.keys) c.as_slice.ensures
    ∙ ap (changed_by (map change_of c.commit-item.result.changes)) c.loop-commit.invariant
    ∙ sym (replay-next c.args.commits.now c.loop-commit.commit-index c.commit-item.result c.args.keys.now c.loop-commit-test.true c.commit-item.is)
