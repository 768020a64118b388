-- The visible keys of files.
use Rattle.std.proofs.Common.{◌≡◌, ap}
use Rattle.general_words.proofs.Maps.{entries-empty}
use Rattle.key_set.specs.WithAll.{with_all, with_keys}
use Rattle.model_names.specs.Order.{name_cmp}
use Rattle.model_maps.specs.Entry.{Entry}
use Rattle.model_maps.specs.KeyMap.{KeyMap, no_keys}

-- no keys add nothing
pub with_none : (keys : KeyMap) → with_all no_keys keys ≡ keys
with_none keys = ap (λ es. with_keys es keys) (entries-empty name_cmp Entry)
