-- The weight so far and that of the keys to come are the weight of all.
use Rattle.std.proofs.Common.{◌≡◌, ◌+◌, ◌<◌, ◌^◌, sum_by}
use Rattle.general_words.specs.Saturated.{saturated}
use Rattle.model_maps.specs.KeyMap.{weight_of_key}
use Rattle.key_set.specs.EntryView.{entry_of}
use Rattle.key_set.proofs.weights.weight_of_all.Given as goal

abbrev pub invariant-loop-name : goal.invariant-loop-name
invariant-loop-name l =
    (l.weight < 2 ^ 64)
    × (saturated (l.weight + sum_by (λ key. weight_of_key key.0 (entry_of key.1)) l.name-iterator)
    ≡ saturated (sum_by (λ key. weight_of_key key.0 (entry_of key.1)) l.keys))
