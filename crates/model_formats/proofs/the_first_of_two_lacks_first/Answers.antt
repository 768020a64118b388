use Rattle.std.specs.Prelude.{◌≡◌, [], ◌∷◌, codes}
use Rattle.std.specs.FinMap as map
use Rattle.std.proofs.Common.{refl, ◌∙◌}
use Rattle.general_words.proofs.Maps.{entries-empty}
use Rattle.model_names.specs.declared.namespaces.Namespace.TheVariants.{Cascading}
use Rattle.model_names.specs.Name.{Name}
use Rattle.model_names.specs.Order.{name_cmp}
use Rattle.model_names.proofs.OrderLemmas.{name_cmp_total}
use Rattle.model_maps.specs.Entry.{Entry, plain_entry}
use Rattle.model_maps.specs.KeyMap.{KeyMap, no_keys}
use Rattle.model_formats.proofs.the_first_of_two_lacks_first.Goals as goal

abbrev name_a : Name
name_a = record { namespace = Cascading; parts = codes "a" ∷ [] }

abbrev name_b : Name
name_b = record { namespace = Cascading; parts = codes "b" ∷ [] }

abbrev name_c : Name
name_c = record { namespace = Cascading; parts = codes "c" ∷ [] }

abbrev one : Entry
one = plain_entry (codes "1")

abbrev keys_c : KeyMap
keys_c = map.insert no_keys name_c one

abbrev keys_bc : KeyMap
keys_bc = map.insert keys_c name_b one

one_entry : map.entries keys_c ≡ (name_c, one) ∷ []
one_entry = map.entries-insert name_cmp_total no_keys name_c one ∙ rw (entries-empty name_cmp Entry)

two_entries : map.entries keys_bc ≡ (name_b, one) ∷ (name_c, one) ∷ []
two_entries = map.entries-insert name_cmp_total keys_c name_b one ∙ rw one_entry

pub returns : goal.returns
returns c = record {
  front = (name_a, plain_entry []) ∷ [];
  entry = one;
  behind = (name_c, one) ∷ [];
  all = map.entries-insert name_cmp_total keys_bc name_a (plain_entry []) ∙ rw two_entries;
  before = (refl, tt);
  lacks = λ none. absurd cc;
}
