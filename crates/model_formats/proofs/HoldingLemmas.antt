-- Every key of a map has a property, or one is the first that lacks it.
use Rattle.std.specs.Prelude.{◌≡◌, ◌⊎◌, T, List, [], ◌∷◌, ◌++◌, Some}
use Rattle.std.specs.List.{AllByRecursion}
use Rattle.std.specs.FinMap as map
use Rattle.std.specs.FinMap.{find, is_sorted}
use Rattle.std.specs.Cmp.{tied_itself}
use Rattle.std.specs.declared.cmp.Ordering.{Ordering}
use Rattle.std.specs.declared.cmp.Ordering.TheVariants.{Less, Equal, Greater}
use Rattle.std.proofs.Common.{refl, sym, ap, subst, ◌∙◌, inl, inr}
use Rattle.model_names.specs.Name.{Name}
use Rattle.model_names.specs.Order.{name_cmp}
use Rattle.model_names.proofs.OrderLemmas.{name_cmp_total, name_cmp-IsAntisymmetric}
use Rattle.model_maps.specs.Entry.{Entry}
use Rattle.model_maps.specs.KeyMap.{KeyMap, no_keys}
use Rattle.model_formats.specs.Holding.{EachHas, LacksFirst, IsKeywise}
use Rattle.general_words.proofs.Lists.{none_is_no_some, some_is}
use Rattle.general_words.proofs.Entries.{find-there}

-- a key that stands among the entries is a key of the map
pub get-there : (keys : KeyMap) (front : List (Name × Entry)) (name : Name) (entry : Entry)
    (behind : List (Name × Entry)) → map.entries keys ≡ front ++ (name, entry) ∷ behind → map.get keys name ≡ Some entry
get-there keys front name entry behind all =
    map.get-entries keys name ∙ ap (find name_cmp name) all
    ∙ find-there name_cmp_total front (name, entry) behind (subst (λ es. T (is_sorted name_cmp es)) all (map.entries_sorted keys))

-- and a key of the map has what all entries have
pub found-has : (Has : Name → Entry → Type 0) (es : List (Name × Entry)) (name : Name) (entry : Entry)
    → AllByRecursion (λ key. Has key.0 key.1) es → find name_cmp name es ≡ Some entry → Has name entry
found-has Has [] name entry all found = absurd (none_is_no_some entry found)
found-has Has (key ∷ es) name entry all found = by (name_cmp name key.0) refl (found-has Has es name entry all.1)
  where
    by : (r : Ordering) → name_cmp name key.0 ≡ r → (find name_cmp name es ≡ Some entry → Has name entry)
        → Has name entry
    by Less e behind = behind (rw e at found)
    by Equal e behind =
        subst (λ n. Has n entry) (sym (name_cmp-IsAntisymmetric name key.0 e)) (subst (Has key.0) (some_is key.1 entry (rw e at found)) all.0)
    by Greater e behind = behind (rw e at found)

pub EachHas-entries : (Has : Name → Entry → Type 0) (keys : KeyMap)
    → AllByRecursion (λ key. Has key.0 key.1) (map.entries keys) → EachHas Has keys
EachHas-entries Has keys all name entry found =
    found-has Has (map.entries keys) name entry all (sym (map.get-entries keys name) ∙ found)

-- the first of some entries that lacks a property
pub record Lacking (Has : Name → Entry → Type 0) (es : List (Name × Entry)) : Type 0 where
  pub front : List (Name × Entry)
  pub key : Name × Entry
  pub behind : List (Name × Entry)
  pub all : es ≡ front ++ key ∷ behind
  pub before : AllByRecursion (λ key. Has key.0 key.1) front
  pub lacks : Has key.0 key.1 → ⊥

lacking-behind : (Has : Name → Entry → Type 0) (key : Name × Entry) (es : List (Name × Entry)) → Has key.0 key.1
    → Lacking Has es → Lacking Has (key ∷ es)
lacking-behind Has key es has lacking =
    record {
      front = key ∷ lacking.front;
      key = lacking.key;
      behind = lacking.behind;
      all = ap (λ rest. key ∷ rest) lacking.all;
      before = (has, lacking.before);
      lacks = lacking.lacks;
    }

all_or_lacking : (Has : Name → Entry → Type 0) → ((name : Name) (entry : Entry) → Has name entry ⊎ (Has name entry → ⊥))
    → (es : List (Name × Entry)) → AllByRecursion (λ key. Has key.0 key.1) es ⊎ Lacking Has es
all_or_lacking Has told [] = inl tt
all_or_lacking Has told (key ∷ es) =
    elim (told key.0 key.1) as (λ _. AllByRecursion (λ key. Has key.0 key.1) (key ∷ es) ⊎ Lacking Has (key ∷ es)) [
      | inl has ↦ elim (all_or_lacking Has told es) as (λ _. AllByRecursion (λ key. Has key.0 key.1) (key ∷ es) ⊎ Lacking Has (key ∷ es)) [
        | inl all ↦ inl (has, all)
        | inr lacking ↦ inr (lacking-behind Has key es has lacking)
      ]
      | inr lacks ↦ inr (record { front = []; key = key; behind = es; all = refl; before = tt; lacks = lacks })
    ]

-- where it can be told of each key whether it has a property, all have it, or one lacks it first
pub EachHas-or_lacks : (Has : Name → Entry → Type 0)
    → ((name : Name) (entry : Entry) → Has name entry ⊎ (Has name entry → ⊥)) → (keys : KeyMap)
    → EachHas Has keys ⊎ ((name : Name) × LacksFirst Has keys name)
EachHas-or_lacks Has told keys =
    elim (all_or_lacking Has told (map.entries keys)) as (λ _. EachHas Has keys ⊎ ((name : Name) × LacksFirst Has keys name)) [
      | inl all ↦ inl (EachHas-entries Has keys all)
      | inr lacking ↦ inr (lacking.key.0, record { front = lacking.front; entry = lacking.key.1; behind = lacking.behind; all = lacking.all; before = lacking.before; lacks = lacking.lacks })
    ]

-- a key that lacks a property first is a key of the map
pub LacksFirst-key : (Has : Name → Entry → Type 0) (keys : KeyMap) (name : Name) → LacksFirst Has keys name
    → (entry : Entry) × (map.get keys name ≡ Some entry)
LacksFirst-key Has keys name lacks = (lacks.entry, get-there keys lacks.front name lacks.entry lacks.behind lacks.all)

-- where all have it, none lacks it
pub EachHas-lacks_nowhere : (Has : Name → Entry → Type 0) (keys : KeyMap) (name : Name) → EachHas Has keys
    → LacksFirst Has keys name → ⊥
EachHas-lacks_nowhere Has keys name each lacks =
    lacks.lacks (each name lacks.entry (get-there keys lacks.front name lacks.entry lacks.behind lacks.all))

split-once : (Has : Name → Entry → Type 0) (f g : List (Name × Entry)) (x y : Name × Entry) (b c : List (Name × Entry))
    → f ++ x ∷ b ≡ g ++ y ∷ c → AllByRecursion (λ key. Has key.0 key.1) f → AllByRecursion (λ key. Has key.0 key.1) g
    → (Has x.0 x.1 → ⊥) → (Has y.0 y.1 → ⊥) → x ≡ y
split-once Has [] [] x y b c e before other lacks lacks_too = cc
split-once Has [] (z ∷ g) x y b c e before other lacks lacks_too =
    let same : z ≡ x = cc in absurd (lacks (subst (λ (key : Name × Entry). Has key.0 key.1) same other.0))
split-once Has (z ∷ f) [] x y b c e before other lacks lacks_too =
    let same : z ≡ y = cc in absurd (lacks_too (subst (λ (key : Name × Entry). Has key.0 key.1) same before.0))
split-once Has (z ∷ f) (w ∷ g) x y b c e before other lacks lacks_too =
    let behind : f ++ x ∷ b ≡ g ++ y ∷ c = cc in
    split-once Has f g x y b c behind before.1 other.1 lacks lacks_too

-- one key alone is the first
pub LacksFirst-once : (Has : Name → Entry → Type 0) (keys : KeyMap) (name other : Name) → LacksFirst Has keys name
    → LacksFirst Has keys other → name ≡ other
LacksFirst-once Has keys name other p q =
    ap (λ (key : Name × Entry). key.0) (split-once Has p.front q.front (name, p.entry) (other, q.entry) p.behind q.behind (sym p.all ∙ q.all) p.before q.before p.lacks q.lacks)

-- a map of one key has that key alone
found-alone : (name : Name) (entry : Entry) (q : Name) (x : Entry) → map.get (map.insert no_keys name entry) q ≡ Some x
    → (q ≡ name) × (entry ≡ x)
found-alone name entry q x found = by (name_cmp q name) refl
  where
    by : (r : Ordering) → name_cmp q name ≡ r → (q ≡ name) × (entry ≡ x)
    by Less e =
        absurd (none_is_no_some x (sym (map.get-empty name_cmp q) ∙ (rw e at (sym (map.get-insert name_cmp_total no_keys name entry q) ∙ found))))
    by Equal e =
        (name_cmp-IsAntisymmetric q name e, some_is entry x (rw e at (sym (map.get-insert name_cmp_total no_keys name entry q) ∙ found)))
    by Greater e =
        absurd (none_is_no_some x (sym (map.get-empty name_cmp q) ∙ (rw e at (sym (map.get-insert name_cmp_total no_keys name entry q) ∙ found))))

there-alone : (name : Name) (entry : Entry) → map.get (map.insert no_keys name entry) name ≡ Some entry
there-alone name entry = map.get-insert name_cmp_total no_keys name entry name ∙ rw (tied_itself name_cmp_total name)

-- where a key has a property beside any others, a map has it exactly where each key alone has it
pub EachHas-keywise : (Has : KeyMap → Name → Entry → Type 0)
    → ((keys other : KeyMap) (name : Name) (entry : Entry) → Has keys name entry → Has other name entry)
    → (keys : KeyMap) → IsKeywise (λ keys. EachHas (Has keys) keys) keys
EachHas-keywise Has alone keys = record {
  each = λ has name entry found q x there. let same = found-alone name entry q x there in
      subst (λ n. Has (map.insert no_keys name entry) n x) (sym same.0) (subst (Has (map.insert no_keys name entry) name) same.1 (alone keys _ name entry (has name entry found)));
  all = λ each name entry found. alone _ keys name entry (each name entry found name entry (there-alone name entry));
}
