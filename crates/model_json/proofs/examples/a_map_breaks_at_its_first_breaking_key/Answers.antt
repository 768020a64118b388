use Rattle.std.specs.Prelude.{◌≡◌, List, [], ◌∷◌, map, codes}
use Rattle.std.proofs.Common.{subst, ◌∙◌}
use Rattle.std.specs.FinMap as finite
use Rattle.model_names.specs.Name.{Name}
use Rattle.model_names.specs.Order.{name_cmp}
use Rattle.model_names.proofs.OrderLemmas.{name_cmp_total}
use Rattle.model_maps.specs.Entry.{Entry, plain_entry}
use Rattle.model_maps.specs.KeyMap.{KeyMap, no_keys}
use Rattle.general_words.proofs.Maps.{entries-empty}
use Rattle.model_json.specs.Tree.{leaf_of, tree, Fits}
use Rattle.model_json.specs.Reading.{name_at}
use Rattle.model_json.proofs.examples.a_map_breaks_at_its_first_breaking_key.Goals as goal

abbrev above : Name
above = name_at (codes "a" ∷ [])

abbrev below : Name
below = name_at (codes "a" ∷ codes "b" ∷ [])

abbrev only_below : KeyMap
only_below = finite.insert no_keys below (plain_entry (codes "2"))

one : finite.entries only_below ≡ (below, plain_entry (codes "2")) ∷ []
one = finite.entries-insert name_cmp_total no_keys below (plain_entry (codes "2")) ∙ rw (entries-empty name_cmp Entry)

both : finite.entries (finite.insert only_below above (plain_entry (codes "1")))
    ≡ (above, plain_entry (codes "1")) ∷ (below, plain_entry (codes "2")) ∷ []
both = finite.entries-insert name_cmp_total only_below above (plain_entry (codes "1")) ∙ rw one

pub returns : goal.returns
returns c = record {
  front = [];
  entry = plain_entry (codes "1");
  behind = (below, plain_entry (codes "2")) ∷ [];
  all = both;
  before = tt;
  lacks = λ key. (subst (λ (es : List (Name × Entry)). Fits (codes "a" ∷ []) (tree (map leaf_of es))) both key.fits).1;
}
