-- The changes are the map's entries.
use Rattle.std.proofs.Common.{map as over, ap, ◌∙◌}
use Rattle.commit_log.specs.CommitView.{change_of}
use Rattle.store_verdict.proofs.change_sets.ChangeSet.list.Goals as goal

pub returns : goal.returns
returns c = ap (over change_of) c.from_vec.ensures ∙ c.in_ok-changes.ensures ∙ c.entries.ensures
