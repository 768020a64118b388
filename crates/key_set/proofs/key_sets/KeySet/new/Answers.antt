-- No keys make the empty map.
use Rattle.std.proofs.Common.{ap, ◌∙◌}
use Rattle.model_names.specs.Order.{name_cmp}
use Rattle.general_words.proofs.Maps.{from_sorted-nil}
use Rattle.key_set.specs.EntryView.{keys_of}
use Rattle.key_set.proofs.key_sets.KeySet.new.Goals as goal

pub returns : goal.returns
returns c = ap keys_of c.new.ensures ∙ from_sorted-nil name_cmp
