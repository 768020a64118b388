use Rattle.std.proofs.Common.{map, take, sym, ap, ◌∙◌}
use Rattle.std.proofs.lemmas.List.{take-map}
use Rattle.commit_log.specs.CommitView.{commit_of}
use Rattle.model_history.specs.History.{replay}
use Rattle.commit_log.proofs.histories.History.replay.Goals as goal

pub returns : goal.returns
returns c =
    c.in_ok-make_commits.ensures
    ∙ ap (λ keys. replay keys (map commit_of (take c.args.front c.deref.result.now))) c.in_ok-keys.ensures
    ∙ ap (replay c.args.start.now) (sym (take-map commit_of c.args.front c.deref.result.now)
    ∙ ap (λ commits. take c.args.front (map commit_of commits)) c.deref.ensures.value
    ∙ ap (λ log. take c.args.front log.commits) c.self.view_is)
