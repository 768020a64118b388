-- No changes make the empty map.
use Rattle.std.proofs.Common.{ap, ◌∙◌}
use Rattle.model_names.specs.Order.{name_cmp}
use Rattle.general_words.proofs.Maps.{from_sorted-nil}
use Rattle.store_verdict.specs.Changing.{changes_in}
use Rattle.store_verdict.proofs.change_sets.ChangeSet.new.Goals as goal

pub returns : goal.returns
returns c = ap changes_in c.new.ensures ∙ from_sorted-nil name_cmp
