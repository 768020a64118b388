-- When keys, and maps of keys, are the same, as a test. (This project's own.)
use Rattle.std.specs.Prelude.{nat_eq, Bool, ◌&&◌}
use Rattle.std.specs.Cmp.{IsEquivalence, and_equiv, on_equiv}
use Rattle.std.specs.Cmp.Lexicographic.{pointwise, lists_equiv, nat_list_eq_equiv}
use Rattle.std.specs.FinMap as map
use Rattle.key_name.specs.Comparing.{name_eq_equiv}
use Rattle.key_meta.specs.Same.{same_meta, same_meta_equiv}
use Rattle.model_names.specs.Name.{Name}
use Rattle.model_names.specs.Order.{name_eq}
use Rattle.model_maps.specs.Entry.{Entry}
use Rattle.model_maps.specs.KeyMap.{KeyMap}

-- two entries have the same value and metadata
abbrev pub same_entry : Entry → Entry → Bool
same_entry x y = pointwise nat_eq x.value y.value && same_meta x.meta y.meta

-- two keys have the same name and entry
abbrev pub same_key : Name × Entry → Name × Entry → Bool
same_key x y = name_eq x.0 y.0 && same_entry x.1 y.1

-- two maps have the same keys
abbrev pub same_keys : KeyMap → KeyMap → Bool
same_keys x y = pointwise same_key (map.entries x) (map.entries y)

pub same_entry_equiv : IsEquivalence same_entry
same_entry_equiv =
    and_equiv (on_equiv (λ (x : Entry). x.value) nat_list_eq_equiv) (on_equiv (λ (x : Entry). x.meta) same_meta_equiv)

pub same_keys_equiv : IsEquivalence same_keys
same_keys_equiv =
    on_equiv (λ (keys : KeyMap). map.entries keys) (lists_equiv (and_equiv (on_equiv (λ (x : Name × Entry). x.0) name_eq_equiv) (on_equiv (λ (x : Name × Entry). x.1) same_entry_equiv)))
