-- The changes of the map are those in name order.
use Rattle.std.proofs.Common.{ap, ◌∙◌}
use Rattle.std.specs.FinMap as map
use Rattle.model_history.specs.Changes.{changed_by}
use Rattle.store_verdict.proofs.change_sets.ChangeSet.applied.Goals as goal

pub returns : goal.returns
returns c =
    c.in_ok-make_all.ensures ∙ ap (λ changes. changed_by changes c.in_ok-made.made) c.entries.ensures
    ∙ ap (changed_by (map.entries c.args.self.now)) c.in_ok-made.ensures
