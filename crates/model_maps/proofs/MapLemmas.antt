-- Maps of keys: what they hold behind an insertion, and what they weigh.
use Rattle.std.specs.Prelude.{◌≡◌, ◌⊎◌, ℕ, ◌+◌, ◌<◌, ◌≤◌, Bool, true, false, List, length, Option, None, Some}
use Rattle.std.proofs.Common.{cond, refl, sym, ◌∙◌, arith, inl, inr}
use Rattle.std.specs.FinMap as map
use Rattle.std.specs.FinMap.{FinMap, IsAntisymmetric}
use Rattle.std.specs.Cmp.{IsTotalOrder}
use Rattle.std.specs.Ordering.{eq_by_cmp}
use Rattle.std.specs.declared.cmp.Ordering.{Ordering}
use Rattle.std.specs.List.{AllByRecursion}
use Rattle.std.proofs.lemmas.List.Elements.{All-from_recursion}
use Rattle.std.proofs.lemmas.Cmp.{nat_list_cmp_total}
use Rattle.std.proofs.lemmas.Str.{IsUtf8-from_ascii}
use Rattle.std.proofs.lemmas.Str.Ascii.{IsAscii-from_all}
use Rattle.model_names.specs.Name.{Name}
use Rattle.model_names.specs.Order.{name_cmp}
use Rattle.model_names.proofs.OrderLemmas.{name_cmp_total}
use Rattle.general_words.specs.Texts.{text_cmp}
use Rattle.general_words.proofs.Orders.{tied}
use Rattle.model_maps.specs.Entry.{Entry, plain_entry, IsValue, longest_value, with_meta}
use Rattle.model_names.specs.Spelling.{spelling}
use Rattle.general_words.proofs.Maps.{sum_by-insert, sum_by-empty}
use Rattle.model_maps.specs.KeyMap.{KeyMap, no_keys, key_weight, weight, weight_of_key}

-- one of two holds what a choice of them holds
chosen : {A : Type 0} (b : Bool) (v x : A) (rest : Option A) → cond b (Some v) rest ≡ Some x
    → ((b ≡ true) × (v ≡ x)) ⊎ (rest ≡ Some x)
chosen true v x rest e = inl (refl, cc)
chosen false v x rest e = inr e

-- what a map holds after an insertion is what was inserted, or stood there before
pub found_in_insert : {K X : Type 0} {R : K → K → Ordering} → IsTotalOrder R → IsAntisymmetric R
    → (m : FinMap R X) (k : K) (v : X) (q : K) (x : X) → map.get (map.insert m k v) q ≡ Some x
    → ((q ≡ k) × (v ≡ x)) ⊎ (map.get m q ≡ Some x)
found_in_insert {X = X} {R = R} total same m k v q x e =
    let which : ((eq_by_cmp R q k ≡ true) × (v ≡ x)) ⊎ (map.get m q ≡ Some x) = chosen (eq_by_cmp R q k) v x (map.get m q) (sym (map.get-insert total m k v q) ∙ e) in
    elim which as (λ _. ((q ≡ k) × (v ≡ x)) ⊎ (map.get m q ≡ Some x)) [
      | inl here ↦ inl (same q k (tied (R q k) here.0), here.1)
      | inr there ↦ inr there
    ]

-- a new key's own weight is added
pub weight-insert : (keys : KeyMap) (name : Name) (entry : Entry) → map.get keys name ≡ None
    → weight (map.insert keys name entry) ≡ weight keys + weight_of_key name entry
weight-insert keys name entry none =
    sum_by-insert name_cmp_total (λ key. weight_of_key key.0 key.1) keys name entry none

pub weight-no_keys : weight no_keys ≡ 0
weight-no_keys = sum_by-empty name_cmp (λ key. weight_of_key key.0 key.1)

pub weight_of_key-plain : (name : Name) (value : List ℕ)
    → weight_of_key name (plain_entry value) ≡ key_weight + length (spelling name) + length value
weight_of_key-plain name value = omega (arith, sum_by-empty text_cmp (λ (m : List ℕ × List ℕ). length m.0 + length m.1))

-- a new metadata's own bytes are added
pub weight_of_key-meta : (name : Name) (entry : Entry) (meta_name text : List ℕ) → map.get entry.meta meta_name ≡ None
    → weight_of_key name (with_meta entry meta_name text) ≡ weight_of_key name entry + length meta_name + length text
weight_of_key-meta name entry meta_name text none =
    omega (arith, sum_by-insert nat_list_cmp_total (λ (m : List ℕ × List ℕ). length m.0 + length m.1) entry.meta meta_name text none)

pub IsValue-from_ascii : (text : List ℕ) → AllByRecursion (λ b. b < 128) text → length text ≤ longest_value
    → IsValue text
IsValue-from_ascii text ascii limit =
    record {
      utf8 = IsUtf8-from_ascii text (IsAscii-from_all text (All-from_recursion (λ b. b < 128) text ascii));
      limit = limit;
    }
