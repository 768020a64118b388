-- The test of metadata decides whether they are the same.
use Rattle.std.proofs.Common.{◌≡◌, ℕ, List, ap}
use Rattle.std.specs.Bool.{Decides}
use Rattle.std.specs.Cmp.Lexicographic.{pointwise_decides, bytes_decides}
use Rattle.std.specs.FinMap as map
use Rattle.general_words.proofs.Deciding.{said, decided_both}
use Rattle.model_maps.specs.Entry.{Meta}
use Rattle.key_meta.specs.Same.{same_item, same_meta}

item_decides : (x y : List ℕ × List ℕ) → Decides (same_item x y) (x ≡ y)
item_decides x y =
    said (same_item x y) (λ h. λ i. (h.0 i, h.1 i)) (λ e. (ap (λ z. z.0) e, ap (λ z. z.1) e)) (decided_both _ _ (bytes_decides x.0 y.0) (bytes_decides x.1 y.1))

pub meta_decides : (x y : Meta) → Decides (same_meta x y) (x ≡ y)
meta_decides x y =
    said (same_meta x y) (map.same_entries_map x y) (ap map.entries) (pointwise_decides item_decides (map.entries x) (map.entries y))
