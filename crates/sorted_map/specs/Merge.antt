-- Entries of two lists as one list. (This project's own.)
use Rattle.std.specs.Prelude.{List, [], ◌∷◌}
use Rattle.std.specs.FinMap.Entries.{put}
use Rattle.std.specs.declared.cmp.Ordering.{Ordering}
use Rattle.std.specs.declared.cmp.Ordering.TheVariants.{Less, Greater}

-- entries with others put among them, one after the other
abbrev pub put_all : {K X : Type 0} → (K → K → Ordering) → List (K × X) → List (K × X) → List (K × X)
put_all R [] es = es
put_all R (other ∷ others) es = put_all R others (put R other.0 other.1 es)

-- which of two lists has the smaller first key; an empty list is behind the other
abbrev pub firsts_cmp : {K X : Type 0} → (K → K → Ordering) → List (K × X) → List (K × X) → Ordering
firsts_cmp R [] fs = Greater
firsts_cmp R (e ∷ es) [] = Less
firsts_cmp R (e ∷ es) (f ∷ fs) = R e.0 f.0
