use Rattle.std.proofs.Common.{map, drop, ap, ◌∙◌}
use Rattle.commit_log.specs.CommitView.{commit_of}
use Rattle.commit_log.proofs.LogLemmas.{rest_whole}
use Rattle.commit_log.proofs.histories.History.behind.Goals as goal

pub returns-clause-behind : goal.returns-clause-behind
returns-clause-behind c =
    rest_whole c.args.front c.deref.result.now
    ∙ ap (λ commits. drop c.args.front (map commit_of commits)) c.deref.ensures.value
    ∙ ap (λ log. drop c.args.front log.commits) c.self.view_is
