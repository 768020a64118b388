use Rattle.std.proofs.Common.{◌≡◌, [], ◌∷◌, Option, Some, ap, ap₂, ◌∙◌}
use Rattle.std.specs.FinMap as map
use Rattle.general_words.proofs.Maps.{get-insert_same}
use Rattle.model_names.specs.Order.{name_cmp}
use Rattle.model_names.proofs.OrderLemmas.{name_cmp_total}
use Rattle.model_maps.specs.Entry.{Entry}
use Rattle.model_maps.specs.KeyMap.{KeyMap, no_keys}
use Rattle.model_undo.specs.Worked.{name_a, name_b, one, two}
use Rattle.model_undo.proofs.examples.an_inverse_gives_what_was_before.Goals as goal

-- the maps behind the first commit and behind the second
abbrev after_first : KeyMap
after_first = map.insert (map.insert no_keys name_a one) name_b one

abbrev after_second : KeyMap
after_second = map.insert after_first name_b two

first-a : map.get after_first name_a ≡ Some one
first-a =
    map.get-insert name_cmp_total (map.insert no_keys name_a one) name_b one name_a
    ∙ get-insert_same name_cmp_total no_keys name_a one

second-a : map.get after_second name_a ≡ Some one
second-a = map.get-insert name_cmp_total after_first name_b two name_a ∙ first-a

pub returns-clause-first : goal.returns-clause-first
returns-clause-first c =
    ap₂ (λ (a b : Option Entry). (name_a, a) ∷ (name_b, b) ∷ []) (map.get-empty name_cmp name_a) (map.get-empty name_cmp name_b)

pub returns-clause-second : goal.returns-clause-second
returns-clause-second c =
    ap (λ (b : Option Entry). (name_b, b) ∷ []) (get-insert_same name_cmp_total (map.insert no_keys name_a one) name_b one)

pub returns-clause-third : goal.returns-clause-third
returns-clause-third c =
    ap₂ (λ (a b : Option Entry). (name_a, a) ∷ (name_b, b) ∷ []) second-a (get-insert_same name_cmp_total after_first name_b two)
