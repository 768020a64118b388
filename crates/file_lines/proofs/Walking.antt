-- A walk over the keys of a map: those that were passed have a property, and the others are left.
use Rattle.std.proofs.Common.{◌≡◌, List, [], ◌∷◌, ◌++◌, refl, sym, subst, ◌∙◌, append-nil, append_assoc}
use Rattle.std.specs.FinMap as map
use Rattle.std.specs.List.{AllByRecursion}
use Rattle.model_names.specs.Name.{Name}
use Rattle.model_maps.specs.Entry.{Entry}
use Rattle.model_maps.specs.KeyMap.{KeyMap}
use Rattle.model_formats.specs.Holding.{EachHas, LacksFirst}
use Rattle.model_formats.proofs.HoldingLemmas.{EachHas-entries}
use Rattle.general_words.proofs.Lists.{all_append}

pub record HaveBefore (Has : Name → Entry → Type 0) (keys : KeyMap) (left : List (Name × Entry)) : Type 0 where
  pub front : List (Name × Entry)
  pub all : map.entries keys ≡ front ++ left
  pub before : AllByRecursion (λ key. Has key.0 key.1) front

module _ (Has : Name → Entry → Type 0) (keys : KeyMap) where
  pub HaveBefore-start : HaveBefore Has keys (map.entries keys)
  HaveBefore-start = record { front = []; all = refl; before = tt }

  -- one more has it
  pub HaveBefore-more : (name : Name) (entry : Entry) (left behind : List (Name × Entry)) → HaveBefore Has keys left
      → left ≡ (name, entry) ∷ behind → Has name entry → HaveBefore Has keys behind
  HaveBefore-more name entry left behind h cut has = record {
    front = h.front ++ (name, entry) ∷ [];
    all = subst (λ rest. map.entries keys ≡ h.front ++ rest) cut h.all ∙ sym (append_assoc h.front ((name, entry) ∷ []) behind);
    before = all_append (λ key. Has key.0 key.1) h.front ((name, entry) ∷ []) h.before (has, tt);
  }

  -- none is left
  pub HaveBefore-all : HaveBefore Has keys [] → EachHas Has keys
  HaveBefore-all h =
      EachHas-entries Has keys (subst (AllByRecursion (λ key. Has key.0 key.1)) (sym (h.all ∙ append-nil h.front)) h.before)

  -- the next one lacks it
  pub HaveBefore-lacks : (name : Name) (entry : Entry) (left behind : List (Name × Entry)) → HaveBefore Has keys left
      → left ≡ (name, entry) ∷ behind → (Has name entry → ⊥) → LacksFirst Has keys name
  HaveBefore-lacks name entry left behind h cut lacks = record {
    front = h.front;
    entry = entry;
    behind = behind;
    all = subst (λ rest. map.entries keys ≡ h.front ++ rest) cut h.all;
    before = h.before;
    lacks = lacks;
  }
