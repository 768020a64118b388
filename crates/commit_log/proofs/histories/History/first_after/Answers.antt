use Rattle.std.proofs.Common.{◌≤◌, map, sym, ap, subst, ◌∙◌}
use Rattle.model_history.specs.History.{first_after}
use Rattle.commit_log.specs.CommitView.{commit_of}
use Rattle.commit_log.specs.Index.{last_of}
use Rattle.commit_log.proofs.LogLemmas.{nothing_behind}
use Rattle.commit_log.proofs.histories.History.first_after.Goals as goal

pub returns-then-last_of-front : goal.returns-then-last_of-front
returns-then-last_of-front c =
    let le : last_of c.self.inside.last.items c.args.mount ≤ c.args.front = subst (λ n. n ≤ c.args.front) (c.last_of.ensures ∙ ap (λ last. last_of last c.args.mount) c.deref.ensures.value) c.if-last_of-front.true in
    sym (ap (λ log. first_after log.commits c.args.mount c.args.front) (sym c.self.view_is) ∙ nothing_behind (map commit_of c.self.inside.commits.items) c.self.inside.last.items c.args.mount c.args.front c.self.invariant.2 le)
