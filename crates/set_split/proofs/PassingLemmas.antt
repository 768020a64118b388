-- The keys that pass a test, key by key.
use Rattle.std.proofs.Common.{◌≡◌, Bool, false, List, ◌∷◌, length, sym, ap, ◌∙◌}
use Rattle.std.specs.FinMap as map
use Rattle.std.specs.FinMap.Entries.{where_key}
use Rattle.std.proofs.lemmas.Bool.{cond-false}
use Rattle.model_names.specs.Name.{Name}
use Rattle.model_names.specs.Order.{name_cmp}
use Rattle.model_names.proofs.OrderLemmas.{name_cmp_total, name_cmp-IsAntisymmetric}
use Rattle.model_maps.specs.Entry.{Entry}
use Rattle.model_maps.specs.KeyMap.{KeyMap, no_keys}
use Rattle.key_set.specs.WithAll.{with_keys}
use Rattle.key_set.proofs.WithAllLemmas.{with_all-none}
use Rattle.general_words.proofs.Maps.{entries-empty, entries-retain}

module _ (p : Name → Bool) where
  -- those of some keys, set among others
  abbrev pub with_passing : List (Name × Entry) → KeyMap → KeyMap
  with_passing es keys = with_keys (where_key name_cmp p es) keys

  pub passing-all : (keys : KeyMap) → with_passing (map.entries keys) no_keys ≡ map.retain_keys keys p
  passing-all keys =
      ap (λ es. with_keys es no_keys) (sym (entries-retain name_cmp_total name_cmp-IsAntisymmetric keys p))
      ∙ sym (with_all-none (map.retain_keys keys p) no_keys (ap length (entries-empty name_cmp Entry)))

  pub passing-same : (e : Name × Entry) (rest : List (Name × Entry)) (keys : KeyMap) → p e.0 ≡ false
      → with_passing rest keys ≡ with_passing (e ∷ rest) keys
  passing-same e rest keys fails = ap (λ es. with_keys es keys) (sym (cond-false (p e.0) _ _ fails))
