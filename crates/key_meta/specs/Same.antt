-- When metadata are the same, as a test. (This project's own.)
use Rattle.std.specs.Prelude.{ℕ, nat_eq, Bool, ◌&&◌, List}
use Rattle.std.specs.Cmp.{IsEquivalence, and_equiv, on_equiv}
use Rattle.std.specs.Cmp.Lexicographic.{pointwise, lists_equiv, nat_list_eq_equiv}
use Rattle.std.specs.FinMap as map
use Rattle.model_maps.specs.Entry.{Meta}

-- two names are the same, and so are their texts
abbrev pub same_item : List ℕ × List ℕ → List ℕ × List ℕ → Bool
same_item x y = pointwise nat_eq x.0 y.0 && pointwise nat_eq x.1 y.1

-- all names and texts are the same
abbrev pub same_meta : Meta → Meta → Bool
same_meta x y = pointwise same_item (map.entries x) (map.entries y)

pub same_meta_equiv : IsEquivalence same_meta
same_meta_equiv =
    on_equiv (λ (meta : Meta). map.entries meta) (lists_equiv (and_equiv (on_equiv (λ (x : List ℕ × List ℕ). x.0) nat_list_eq_equiv) (on_equiv (λ (x : List ℕ × List ℕ). x.1) nat_list_eq_equiv)))
