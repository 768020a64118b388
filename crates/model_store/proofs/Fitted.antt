-- That a file of a mount by key takes what it is to hold after a commit.
use Rattle.std.proofs.Common.{◌≡◌, ℕ, Bool, true, false, cond, nat_lt, length, List, slice_get, Option, Some, None, refl, sym, ap, ◌∙◌}
use Rattle.std.specs.Option.{option_and_then, option_map, option_map_or}
use Rattle.backend_files.specs.WholeFile.{longest_file}
use Rattle.general_words.specs.Saturated.{saturated}
use Rattle.general_words.proofs.Lists.{some_is}
use Rattle.model_maps.specs.KeyMap.{KeyMap, heaviest_map, weight}
use Rattle.model_names.specs.Order.{name_eq}
use Rattle.mount_table.specs.Points.{own_point}
use Rattle.mount_table.specs.Table.{table_of}
use Rattle.mount_table.specs.declared.mounts.Mount.{Mount}
use Rattle.set_split.specs.Parts.{owned_by}
use Rattle.model_store.specs.Fitting.{Fits, IsStorableAt, TooHeavy, TooLong, fault_of_table, heavy_contents, long_text}
use Rattle.model_store.specs.Sound.{IsSound}
use Rattle.model_store.specs.Store.{Store, Formats, contents, counts_keys, points_of}
use Rattle.model_store.specs.Verdicts.{TooLarge, oversize, too_large_at, too_large_file}
use Rattle.model_store.proofs.Relatives.{IsMix, mix-contents}

-- a mount of the store counts by key
pub record IsByKey (store : Store) (m : ℕ) : Type 0 where
  pub mount : Mount
  pub there : slice_get store.mounts m ≡ Some mount
  pub by_key : mount.by_key ≡ true

pub mount_by_key : (store : Store) (m : ℕ) → counts_keys store m ≡ true → IsByKey store m
mount_by_key store m is = by (slice_get store.mounts m) refl is
  where
    by : (o : Option Mount) → slice_get store.mounts m ≡ o
        → option_map_or (λ (mount : Mount). mount.by_key) o false ≡ true → IsByKey store m
    by None there key = absurd cc
    by (Some mount) there key = record { mount = mount; there = there; by_key = key }

-- where a file isn't too large, its keys are light and its text is short
pub not_oversize : (formats : Formats) (mount : Mount) (keys : KeyMap) → oversize formats mount keys ≡ None
    → (nat_lt heaviest_map (weight keys) ≡ false)
    × (nat_lt longest_file (length (formats.text mount.kind keys)) ≡ false)
not_oversize formats mount keys none =
    by (nat_lt heaviest_map (weight keys)) (nat_lt longest_file (length (formats.text mount.kind keys))) (saturated (weight keys)) (length (formats.text mount.kind keys)) none
  where
    by : (heavy long : Bool) (n k : ℕ) → cond heavy (Some n) (cond long (Some k) None) ≡ None
        → (heavy ≡ false) × (long ≡ false)
    by true long n k e = absurd cc
    by false true n k e = absurd cc
    by false false n k e = (refl, refl)

nothing_mapped : {A B : Type 0} (f : A → B) (o : Option A) → option_map f o ≡ None → o ≡ None
nothing_mapped f None e = refl
nothing_mapped f (Some a) e = absurd cc

module _ (formats : Formats) (store : Store) (m : ℕ) (keys : KeyMap) (key : IsByKey store m) where
  abbrev wanted : ℕ → KeyMap
  wanted n = owned_by (points_of store) n keys

  abbrev held : Mount → KeyMap
  held mount = contents store m mount (owned_by (points_of store) m keys)

  -- a mount of which nothing is told as too large isn't
  pub small_file : too_large_at formats store keys m ≡ None → oversize formats key.mount (held key.mount) ≡ None
  small_file none =
      nothing_mapped (TooLarge m) (oversize formats key.mount (held key.mount))
      (sym (ap (option_and_then (too_large_file formats store keys m)) key.there ∙ ap (λ b. cond b (option_map (TooLarge m) (oversize formats key.mount (held key.mount))) None) key.by_key) ∙ none)

  -- its file can be stored where its keys come from two maps that can
  pub storable_mix : IsSound formats store → (first second : KeyMap) → IsStorableAt formats store (λ n. first) m
      → IsStorableAt formats store (λ n. second) m → IsMix first second (owned_by (points_of store) m keys)
      → IsStorableAt formats store wanted m
  storable_mix sound first second one other mix mount there =
      let same : key.mount ≡ mount = some_is key.mount mount (sym key.there ∙ there) in
      sound.mixes m mount there (sym (ap (λ (x : Mount). x.by_key) same) ∙ key.by_key) (contents store m mount first) (contents store m mount second) (held mount) (one mount there) (other mount there)
      (mix-contents store m mount first second (owned_by (points_of store) m keys) mix)

  -- so it fits
  pub fits_by_key : IsSound formats store → too_large_at formats store keys m ≡ None
      → IsStorableAt formats store wanted m → Fits formats store wanted m
  fits_by_key sound none can =
      let small = not_oversize formats key.mount (held key.mount) (small_file none) in
      record {
        light =
            ap (option_and_then (λ (mount : Mount). heavy_contents m (held mount))) key.there
            ∙ ap (λ b. cond b (Some (TooHeavy m (saturated (weight (held key.mount))))) None) small.0;
        storable = can;
        short =
            ap (option_and_then (λ (mount : Mount). long_text m (formats.text mount.kind (held mount)))) key.there
            ∙ ap (λ b. cond b (Some (TooLong m (length (formats.text key.mount.kind (held key.mount))))) None) small.1;
        table =
            ap (option_and_then (λ (mount : Mount). cond (name_eq mount.at own_point) (fault_of_table (table_of (wanted m))) None)) key.there
            ∙ ap (λ b. cond b (fault_of_table (table_of (wanted m))) None) (sound.elsewhere m key.mount key.there key.by_key);
      }

-- a file that takes keys isn't too large with them
pub fits_small : (formats : Formats) (store : Store) (wanted : ℕ → KeyMap) (m : ℕ) (mount : Mount)
    → slice_get store.mounts m ≡ Some mount → Fits formats store wanted m
    → oversize formats mount (contents store m mount (wanted m)) ≡ None
fits_small formats store wanted m mount there fits =
    by (nat_lt heaviest_map (weight keys)) (nat_lt longest_file (length bytes)) light short
  where
    keys : KeyMap
    keys = contents store m mount (wanted m)

    bytes : List ℕ
    bytes = formats.text mount.kind (contents store m mount (wanted m))

    light : heavy_contents m (contents store m mount (wanted m)) ≡ None
    light =
        sym (ap (option_and_then (λ (mount : Mount). heavy_contents m (contents store m mount (wanted m)))) there)
        ∙ fits.light

    short : long_text m (formats.text mount.kind (contents store m mount (wanted m))) ≡ None
    short =
        sym (ap (option_and_then (λ (mount : Mount). long_text m (formats.text mount.kind (contents store m mount (wanted m))))) there)
        ∙ fits.short

    by : (heavy long : Bool) → cond heavy (Some (TooHeavy m (saturated (weight keys)))) None ≡ None
        → cond long (Some (TooLong m (length bytes))) None ≡ None
        → cond heavy (Some (saturated (weight keys))) (cond long (Some (length bytes)) None) ≡ None
    by true long e f = absurd cc
    by false true e f = absurd cc
    by false false e f = refl
