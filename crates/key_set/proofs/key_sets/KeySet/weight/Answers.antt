-- The map has an entry for each key.
use Rattle.std.proofs.Common.{sum_by, sym, ap, ◌∙◌}
use Rattle.std.specs.FinMap as map
use Rattle.general_words.specs.Saturated.{saturated}
use Rattle.model_maps.specs.KeyMap.{weight_of_key}
use Rattle.key_set.proofs.SetLemmas.{entries-keys, weight-seen}
use Rattle.key_set.proofs.key_sets.KeySet.weight.Goals as goal

pub returns : goal.returns
returns c =
    let entries = sym (entries-keys c.self.inside.keys c.weight_of_all.ensures.sorted) ∙ ap map.entries c.self.view_is in
    c.weight_of_all.ensures.weight
    ∙ ap saturated (weight-seen c.self.inside.keys ∙ ap (sum_by (λ key. weight_of_key key.0 key.1)) entries)
