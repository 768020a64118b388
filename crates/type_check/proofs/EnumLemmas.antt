-- Without metadata each value is kept.
use Rattle.std.specs.Prelude.{◌≡◌, ℕ, List, [], None, length, codes}
use Rattle.std.specs.FinMap as map
use Rattle.std.specs.FinMap.{FinMap, find, get-entries}
use Rattle.std.specs.declared.cmp.Ordering.{Ordering}
use Rattle.std.proofs.Common.{ap, ◌∙◌}
use Rattle.std.proofs.lemmas.List.{nil_from_length}
use Rattle.model_maps.specs.Entry.{Meta, item_name}
use Rattle.model_maps.proofs.ArrayLemmas.{array_texts-none}
use Rattle.model_rules.specs.Rules.{BreaksEnum}
use Rattle.model_rules.specs.declared.breaches.Broken.{Broken}

get-none : {K X : Type 0} {R : K → K → Ordering} (m : FinMap R X) (q : K) → map.entries m ≡ [] → map.get m q ≡ None
get-none {R = R} m q none = get-entries m q ∙ ap (find R q) none

pub keeps_bare : (value : List ℕ) (meta : Meta) (broken : Broken) → length (map.entries meta) ≡ 0
    → BreaksEnum value meta broken → ⊥
keeps_bare value meta broken none p =
    p.some (array_texts-none meta (codes "check/enum") (get-none meta (item_name (codes "check/enum") 0) (nil_from_length (map.entries meta) none)))
