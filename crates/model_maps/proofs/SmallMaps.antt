-- For worked files: the map of one key.
use Rattle.std.specs.Prelude.{◌≡◌, ◌+◌, [], ◌∷◌, codes, Some}
use Rattle.std.specs.FinMap as map
use Rattle.std.proofs.Common.{ap₂, ◌∙◌}
use Rattle.model_names.specs.declared.namespaces.Namespace.TheVariants.{Cascading}
use Rattle.model_names.specs.Name.{Name}
use Rattle.model_names.specs.Order.{name_cmp}
use Rattle.model_names.proofs.OrderLemmas.{name_cmp_total}
use Rattle.model_maps.specs.Entry.{plain_entry}
use Rattle.model_maps.specs.KeyMap.{KeyMap, no_keys, weight}
use Rattle.general_words.proofs.Maps.{get-insert_same}
use Rattle.model_maps.proofs.MapLemmas.{weight-insert, weight-no_keys, weight_of_key-plain}

-- the key `/a` = `1`
abbrev pub name_a : Name
name_a = record { namespace = Cascading; parts = codes "a" ∷ [] }

abbrev pub plain_a : KeyMap
plain_a = map.insert no_keys name_a (plain_entry (codes "1"))

pub plain_a_has : map.get plain_a name_a ≡ Some (plain_entry (codes "1"))
plain_a_has = get-insert_same name_cmp_total no_keys name_a (plain_entry (codes "1"))

pub plain_a_weighs : weight plain_a ≡ 67
plain_a_weighs =
    weight-insert no_keys name_a _ (map.get-empty name_cmp name_a)
    ∙ ap₂ (λ m n. m + n) weight-no_keys (weight_of_key-plain name_a (codes "1"))
