-- The keys at or below a name, one by one.
use Rattle.std.proofs.Common.{◌≡◌, Bool, true, false, cond, List, [], ◌∷◌, ◌++◌, filter, refl, ap}
use Rattle.std.specs.FinMap as map
use Rattle.std.specs.FinMap.Entries.{where_key}
use Rattle.std.specs.List.{flat_map}
use Rattle.model_names.specs.Name.{Name}
use Rattle.model_names.specs.Below.{is_at_or_below}
use Rattle.model_names.specs.Order.{name_cmp}
use Rattle.general_words.proofs.Maps.{entries-retain}
use Rattle.model_names.proofs.OrderLemmas.{name_cmp_total, name_cmp-IsAntisymmetric}
use Rattle.model_maps.specs.KeyMap.{KeyMap, at_or_below}

-- the entries of the keys at or below a name are those whose names pass the test
pub entries-below : (above : Name) (keys : KeyMap) → map.entries (at_or_below above keys) ≡ where_key name_cmp (is_at_or_below above) (map.entries keys)
entries-below above keys = entries-retain name_cmp_total name_cmp-IsAntisymmetric keys (is_at_or_below above)

-- what the items that pass a test give
pub flat_map-where : {X A : Type 0} (p : X → Bool) (f : X → List A) (xs : List X)
    → flat_map (λ x. cond (p x) (f x) []) xs ≡ flat_map f (filter p xs)
flat_map-where p f [] = refl
flat_map-where p f (x ∷ xs) =
    let rest = flat_map-where p f xs in
    elim (p x) as (λ b. cond b (f x) [] ++ flat_map (λ y. cond (p y) (f y) []) xs ≡ flat_map f (cond b (x ∷ filter p xs) (filter p xs))) [ true ↦ ap (λ ys. f x ++ ys) rest | false ↦ rest ]
