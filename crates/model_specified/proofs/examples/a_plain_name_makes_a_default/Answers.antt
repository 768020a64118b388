use Rattle.std.proofs.Common.{List, Option, ap}
use Rattle.std.specs.Prelude.{ℕ, codes, [], ◌∷◌}
use Rattle.std.specs.FinMap as map
use Rattle.std.specs.Option.{option_map, option_to_list}
use Rattle.general_words.specs.Texts.{text_cmp}
use Rattle.general_words.proofs.Maps.{get-insert_same}
use Rattle.general_words.proofs.Texts.{text_cmp-total}
use Rattle.model_maps.specs.Entry.{plain_entry}
use Rattle.model_specified.specs.Specified.{default_name}
use Rattle.model_specified.proofs.examples.a_plain_name_makes_a_default.Goals as goal

pub returns-clause-made : goal.returns-clause-made
returns-clause-made c =
    ap (λ (o : Option (List ℕ)). option_to_list (option_map (λ text. (default_name (codes "a" ∷ []), plain_entry text)) o)) (get-insert_same text_cmp-total map.empty (codes "default") (codes "80"))

pub returns-clause-without : goal.returns-clause-without
returns-clause-without c =
    ap (λ (o : Option (List ℕ)). option_to_list (option_map (λ text. (default_name (codes "a" ∷ []), plain_entry text)) o)) (map.get-empty text_cmp (codes "default"))
