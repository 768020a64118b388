-- What stands in the vector is what the map holds.
use Rattle.std.proofs.Common.{map as over, sym, ap, ◌∙◌}
use Rattle.std.specs.FinMap as map
use Rattle.store_verdict.proofs.ChangeSetLemmas.{entries-changes, seen_change}
use Rattle.store_verdict.proofs.change_sets.ChangeSet.entries.Goals as goal

pub returns : goal.returns
returns c =
    ap (over seen_change) c.entries.ensures.all ∙ sym (entries-changes c.self.inside.changes c.entries.ensures.sorted)
    ∙ ap map.entries c.self.view_is
