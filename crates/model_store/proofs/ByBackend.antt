-- Where no mount counts by key, all goes by the backend.
use Rattle.std.proofs.Common.{◌≡◌, ℕ, false, cond, not, List, [], ◌∷◌, slice_get, take, Option, Some, None, refl, ap, ◌∙◌}
use Rattle.std.specs.Option.{option_and_then, option_map, option_map_or}
use Rattle.model_maps.specs.KeyMap.{KeyMap}
use Rattle.model_history.specs.Changes.{after}
use Rattle.model_history.specs.History.{Commit, first_after, is_among, replay}
use Rattle.mount_table.specs.declared.mounts.Mount.{Mount}
use Rattle.model_store.specs.Cores.{keeping, kept_from, storing}
use Rattle.model_store.specs.Records.{Record, kept_at, seen_from}
use Rattle.model_store.specs.Sets.{Prepared}
use Rattle.model_store.specs.Store.{Store, Formats, by_backend, contents, counts_keys, points_of}
use Rattle.model_store.specs.Verdicts.{TooLarge, blocking_behind, first_same, oversize, too_large, too_large_at, too_large_file}
use Rattle.model_store.proofs.Members.{nothing_of}
use Rattle.set_split.specs.Parts.{owned_by}

module _ (store : Store) (none : (m : ℕ) → counts_keys store m ≡ false) where
  pub first-blocks : (history : List Commit) (set : Prepared) (m front : ℕ)
      → blocking_behind store history set m front ≡ first_after history m front
  first-blocks history set m front =
      ap (λ b. cond b (first_same (points_of store) history set m front) (first_after history m front)) (none m)

  pub kept-front : (history : List Commit) (handle m front : ℕ)
      → kept_at store history handle m front ≡ owned_by (points_of store) m (replay store.start (take front history))
  kept-front history handle m front =
      ap (λ own. owned_by (points_of store) m (seen_from own store.start history handle front)) (none m)

  pub all-backend : (mounts : List ℕ) → by_backend store mounts ≡ mounts
  all-backend [] = refl
  all-backend (m ∷ mounts) =
      ap (λ b. cond (not b) (m ∷ by_backend store mounts) (by_backend store mounts)) (none m)
      ∙ ap (λ ms. m ∷ ms) (all-backend mounts)

  pub stored-kept : (mounts : List ℕ) (number : ℕ) (keys : ℕ → KeyMap) (rec : Record) (m : ℕ)
      → (storing store mounts number keys rec).fetched m ≡ (keeping mounts number keys rec).fetched m
  stored-kept mounts number keys rec m =
      ap (λ own. cond (is_among mounts m) (kept_from own number (keys m) (rec.fetched m)) (rec.fetched m)) (none m)

  pub none-large : (formats : Formats) (keys : KeyMap) (set : Prepared) → too_large formats store keys set ≡ None
  none-large formats keys set =
      nothing_of (too_large_at formats store (after keys set.changes)) set.touched (λ m among. by m (slice_get store.mounts m) (none m))
    where
      by : (m : ℕ) (o : Option Mount) → option_map_or (λ (mount : Mount). mount.by_key) o false ≡ false
          → option_and_then (too_large_file formats store (after keys set.changes) m) o ≡ None
      by m None off = refl
      by m (Some mount) off =
          ap (λ b. cond b (option_map (TooLarge m) (oversize formats mount (contents store m mount (owned_by (points_of store) m (after keys set.changes))))) None) off
