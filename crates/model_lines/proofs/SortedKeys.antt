-- Keys in name order: what stands before a key is less, and what stands behind it greater.
use Rattle.std.specs.Prelude.{◌≡◌, T, List, [], ◌∷◌, ◌++◌}
use Rattle.std.specs.FinMap.{is_sorted}
use Rattle.std.specs.FinMap.Entries.{below_all}
use Rattle.std.specs.List.{AllByRecursion}
use Rattle.std.specs.Ordering.{is_lt}
use Rattle.std.specs.declared.cmp.Ordering.TheVariants.{Less}
use Rattle.general_words.proofs.Tests.{first, second}
use Rattle.general_words.proofs.Orders.{less}
use Rattle.model_names.specs.Name.{Name}
use Rattle.model_names.specs.Order.{name_cmp}
use Rattle.model_maps.specs.Entry.{Entry}

-- what is below all of a list is below what stands in it
pub below : (x : Name) (front : List (Name × Entry)) (key : Name × Entry) (rest : List (Name × Entry))
    → T (below_all name_cmp x (front ++ key ∷ rest)) → name_cmp x key.0 ≡ Less
below x [] key rest h = less _ (first _ _ h)
below x (f ∷ front) key rest h = below x front key rest (second _ _ h)

pub sorted-behind : (front : List (Name × Entry)) (key : Name × Entry) (rest : List (Name × Entry))
    → T (is_sorted name_cmp (front ++ key ∷ rest)) → T (below_all name_cmp key.0 rest)
sorted-behind [] key rest h = first _ _ h
sorted-behind (f ∷ front) key rest h = sorted-behind front key rest (second _ _ h)

-- the keys before a key are less, and those behind it greater
pub before_all : (front : List (Name × Entry)) (key : Name × Entry) (rest : List (Name × Entry))
    → T (is_sorted name_cmp (front ++ key ∷ rest)) → AllByRecursion (λ k. name_cmp k.0 key.0 ≡ Less) front
before_all [] key rest h = tt
before_all (f ∷ front) key rest h = (below f.0 front key rest (first _ _ h), before_all front key rest (second _ _ h))

pub below_each : (x : Name) (keys : List (Name × Entry)) → T (below_all name_cmp x keys)
    → AllByRecursion (λ k. name_cmp x k.0 ≡ Less) keys
below_each x [] h = tt
below_each x (key ∷ keys) h =
    (less (name_cmp x key.0) (first (is_lt (name_cmp x key.0)) (below_all name_cmp x keys) h), below_each x keys (second (is_lt (name_cmp x key.0)) (below_all name_cmp x keys) h))
