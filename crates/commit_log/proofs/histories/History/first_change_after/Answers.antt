use Rattle.std.proofs.Common.{map, sym, ap, ◌∙◌}
use Rattle.model_history.specs.History.{first_change_after}
use Rattle.commit_log.specs.CommitView.{commit_of}
use Rattle.commit_log.proofs.NamingLemmas.{rising-at, found-mark, no-mark}
use Rattle.commit_log.proofs.histories.History.first_change_after.Goals as goal

pub first_mark-requires : goal.first_mark-requires
first_mark-requires c =
    rising-at (map commit_of c.self.inside.commits.items) c.self.inside.names c.self.inside.named c.self.invariant.3 c.args.name.now c.args.front c.args.not_by

pub returns-in-Some : goal.returns-in-Some
returns-in-Some c =
    sym (ap (λ log. first_change_after log.commits c.args.name.now c.args.front c.args.not_by) (sym c.self.view_is)
    ∙ found-mark (map commit_of c.self.inside.commits.items) c.self.inside.names c.self.inside.named c.self.invariant.3 c.args.name.now c.args.front c.args.not_by c.in-Some.number (sym c.first_mark.ensures ∙ c.in-Some.is))

pub returns : goal.returns
returns c =
    c.first_change_behind.ensures
    ∙ ap (λ commits. first_change_after (map commit_of commits) c.args.name.now c.later_of-from.result c.args.not_by) c.deref.ensures.value
    ∙ ap (λ from. first_change_after (map commit_of c.self.inside.commits.items) c.args.name.now from c.args.not_by) c.later_of-from.ensures
    ∙ sym (no-mark (map commit_of c.self.inside.commits.items) c.self.inside.names c.self.inside.named c.self.invariant.3 c.args.name.now c.args.front c.args.not_by (sym c.first_mark.ensures ∙ c.in_default.is))
    ∙ ap (λ log. first_change_after log.commits c.args.name.now c.args.front c.args.not_by) c.self.view_is
