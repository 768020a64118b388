-- Insert by insert.
use Rattle.std.proofs.Common.{◌∙◌}
use Rattle.std.specs.FinMap as map
use Rattle.model_names.specs.Order.{name_cmp}
use Rattle.model_names.proofs.OrderLemmas.{name_cmp_total}
use Rattle.model_maps.specs.KeyMap.{no_keys}
use Rattle.model_store.specs.Worked.{name_a, name_b, name_c, one}
use Rattle.model_store.proofs.examples.by_key_a_handle_keeps_its_own_changes.Goals as goal

pub returns-clause-own : goal.returns-clause-own
returns-clause-own c = map.get-insert name_cmp_total (map.insert no_keys name_a one) name_c one name_c

pub returns-clause-others : goal.returns-clause-others
returns-clause-others c =
    map.get-insert name_cmp_total (map.insert no_keys name_a one) name_c one name_b
    ∙ map.get-insert name_cmp_total no_keys name_a one name_b
    ∙ map.get-empty name_cmp name_b

pub returns-clause-present : goal.returns-clause-present
returns-clause-present c =
    map.get-insert name_cmp_total (map.insert (map.insert no_keys name_a one) name_b one) name_c one name_b
    ∙ map.get-insert name_cmp_total (map.insert no_keys name_a one) name_b one name_b
