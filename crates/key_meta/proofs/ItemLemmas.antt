-- Items of metadata stay such items where one is put in, written over or taken out.
use Rattle.std.proofs.Common.{◌≡◌, ℕ, zero, suc, List, [], ◌∷◌, take, drop, Some, true, false, cond, refl, sym, subst, slice_set, slice_index_or}
use Rattle.std.specs.FinMap.{find}
use Rattle.std.specs.FinMap.Entries.{put, by_order}
use Rattle.std.specs.List.{remove}
use Rattle.std.specs.Ordering.{eq_by_cmp}
use Rattle.std.specs.declared.cmp.Ordering.TheVariants.{Less, Equal, Greater}
use Rattle.std.specs.FinMap.{slice_cmp-IsAntisymmetric, nat_cmp-IsAntisymmetric}
use Rattle.general_words.specs.Texts.{text_cmp}
use Rattle.key_meta.specs.MetaView.{IsItem, AreItems}
use Rattle.general_words.proofs.Orders.{tied}
use Rattle.general_words.proofs.Lists.{all_append}

pub AreItems-put : (name text : List ℕ) → IsItem (name, text) → (items : List (List ℕ × List ℕ)) → AreItems items
    → AreItems (put text_cmp name text items)
AreItems-put name text is [] all = (is, tt)
AreItems-put name text is (item ∷ items) all =
    elim (text_cmp name item.0) as (λ r. AreItems (by_order r ((name, text) ∷ item ∷ items) ((item.0, text) ∷ items) (item ∷ put text_cmp name text items))) [
      | Less ↦ (is, all)
      | Equal ↦ (record { is_name = all.0.is_name; is_text = is.is_text }, all.1)
      | Greater ↦ (all.0, AreItems-put name text is items all.1)
    ]

all_drop : (n : ℕ) (items : List (List ℕ × List ℕ)) → AreItems items → AreItems (drop n items)
all_drop zero items all = all
all_drop (suc n) [] all = all
all_drop (suc n) (item ∷ items) all = all_drop n items all.1

all_front : (n : ℕ) (items : List (List ℕ × List ℕ)) → AreItems items → AreItems (take n items)
all_front zero items all = tt
all_front (suc n) [] all = tt
all_front (suc n) (item ∷ items) all = (all.0, all_front n items all.1)

pub AreItems-remove : (i : ℕ) (items : List (List ℕ × List ℕ)) → AreItems items → AreItems (remove items i)
AreItems-remove i items all =
    all_append IsItem (take i items) (drop (suc i) items) (all_front i items all) (all_drop (suc i) items all)

-- the item at a place, or a good one
pub IsItem-at : (i : ℕ) (items : List (List ℕ × List ℕ)) (item : List ℕ × List ℕ) → IsItem item → AreItems items
    → IsItem (slice_index_or items i item)
IsItem-at i [] item is all = is
IsItem-at zero (x ∷ items) item is all = all.0
IsItem-at (suc i) (x ∷ items) item is all = IsItem-at i items item is all.1

pub AreItems-set : (i : ℕ) (items : List (List ℕ × List ℕ)) (item : List ℕ × List ℕ) → IsItem item → AreItems items
    → AreItems (slice_set items i item)
AreItems-set i [] item is all = all
AreItems-set zero (x ∷ items) item is all = (is, all.1)
AreItems-set (suc i) (x ∷ items) item is all = (all.0, AreItems-set i items item is all.1)

-- what is found among items is one of them
pub IsItem-find : (name text : List ℕ) (items : List (List ℕ × List ℕ)) → AreItems items
    → find text_cmp name items ≡ Some text → IsItem (name, text)
IsItem-find name text [] all found = cc
IsItem-find name text (item ∷ items) all found =
    elim (eq_by_cmp text_cmp name item.0) as (λ b. eq_by_cmp text_cmp name item.0 ≡ b → cond b (Some item.1) (find text_cmp name items) ≡ Some text → IsItem (name, text)) [
      | true ↦ λ is e.
          let same : item.0 ≡ name = sym (slice_cmp-IsAntisymmetric nat_cmp-IsAntisymmetric name item.0 (tied _ is)) in
          let same_text : item.1 ≡ text = cc in
          subst IsItem (λ i. (same i, same_text i)) all.0
      | false ↦ λ is e. IsItem-find name text items all.1 e
    ] refl found
