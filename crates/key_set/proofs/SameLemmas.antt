-- The test of keys decides whether they are the same.
use Rattle.std.proofs.Common.{◌≡◌, ◌&&◌, [], ◌∷◌, refl, ap}
use Rattle.std.specs.Bool.{Decides}
use Rattle.std.specs.Cmp.Lexicographic.{pointwise, pointwise_decides, bytes_decides}
use Rattle.std.specs.FinMap as map
use Rattle.model_names.specs.Name.{Name}
use Rattle.model_names.specs.Order.{name_eq}
use Rattle.model_maps.specs.Entry.{Entry}
use Rattle.model_maps.specs.KeyMap.{KeyMap}
use Rattle.sorted_map.proofs.SeenLemmas.{seen}
use Rattle.model_names.specs.Order.{name_cmp}
use Rattle.key_set.specs.EntryView.{entry_of}
use Rattle.key_set.specs.Same.{same_entry, same_key, same_keys}
use Rattle.key_set.proofs.SetLemmas.{Keys}
use Rattle.general_words.proofs.Deciding.{said, decided_both}
use Rattle.key_meta.proofs.SameLemmas.{meta_decides}
use Rattle.model_names.proofs.OrderLemmas.{name_decides}

pub entry_decides : (x y : Entry) → Decides (same_entry x y) (x ≡ y)
entry_decides x y =
    said (same_entry x y) (λ h. λ i. record { value = h.0 i; meta = h.1 i }) (λ e. (ap (λ z. z.value) e, ap (λ z. z.meta) e)) (decided_both _ _ (bytes_decides x.value y.value) (meta_decides x.meta y.meta))

key_decides : (x y : Name × Entry) → Decides (same_key x y) (x ≡ y)
key_decides x y =
    said (same_key x y) (λ h. λ i. (h.0 i, h.1 i)) (λ e. (ap (λ z. z.0) e, ap (λ z. z.1) e)) (decided_both _ _ (name_decides x.0 y.0) (entry_decides x.1 y.1))

pub keys_decides : (x y : KeyMap) → Decides (same_keys x y) (x ≡ y)
keys_decides x y =
    said (same_keys x y) (map.same_entries_map x y) (ap map.entries) (pointwise_decides key_decides (map.entries x) (map.entries y))

-- keys are the same as they are seen
pub pointwise-seen : (xs ys : Keys)
    → pointwise (λ x y. name_eq x.0 y.0 && same_entry (entry_of x.1) (entry_of y.1)) xs ys
    ≡ pointwise same_key (seen name_cmp entry_of xs) (seen name_cmp entry_of ys)
pointwise-seen [] [] = refl
pointwise-seen [] (y ∷ ys) = refl
pointwise-seen (x ∷ xs) [] = refl
pointwise-seen (x ∷ xs) (y ∷ ys) =
    ap (λ b. same_key (x.0, entry_of x.1) (y.0, entry_of y.1) && b) (pointwise-seen xs ys)
