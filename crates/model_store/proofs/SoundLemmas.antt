-- The store of files that can be written again is sound: what an opening makes sure of.
use Rattle.std.proofs.Common.{◌≡◌, ◌⊎◌, ℕ, zero, suc, Bool, true, false, true≢false, List, [], ◌∷◌, map as over, slice_get, Option, Some, None, inl, inr, refl, sym, ap, subst, ◌∙◌}
use Rattle.std.specs.FinMap as map
use Rattle.std.specs.Option.{option_map, option_map_or}
use Rattle.std.proofs.lemmas.Option.{none-some, same_Some, slice_get-map}
use Rattle.kdb_outside.specs.declared.kinds.Kind.{Kind}
use Rattle.kdb_outside.specs.declared.kinds.Kind.TheVariants.{Dump, SimpleIni, Hosts, Json}
use Rattle.key_set.specs.WithAll.{with_all}
use Rattle.model_names.specs.Name.{Name}
use Rattle.model_names.specs.Order.{name_eq}
use Rattle.model_names.proofs.OrderLemmas.{name_decides}
use Rattle.model_maps.specs.Entry.{Entry}
use Rattle.model_maps.specs.KeyMap.{KeyMap, no_keys}
use Rattle.model_store.specs.Fitting.{IsStorableAt}
use Rattle.model_store.specs.Sets.{wants}
use Rattle.model_store.specs.Sound.{Mixes, IsSound}
use Rattle.model_store.specs.Store.{formats_of, points_of, is_bad, shadow_of, store_of}
use Rattle.mount_table.specs.Counting.{may_count}
use Rattle.mount_table.specs.Points.{own_point}
use Rattle.mount_table.specs.declared.mounts.Mount.{Mount}
use Rattle.mount_table.proofs.ByKeyLemmas.{by_key-may_count, own-by_backend}
use Rattle.mounted_files.specs.Opening.{IsMadeByKeys}
use Rattle.mounted_files.specs.Files as files
use Rattle.mounted_files.specs.Short.{AreShort, HasShortTexts, HaveShortTexts}
use Rattle.mounted_files.specs.Visible.{visible_keys, visible_of}
use Rattle.mounted_files.specs.Whole.{relative}
use Rattle.mounted_files.specs.Writable.{Storing, CanBeWritten, AllCanBeWritten}
use Rattle.mounted_files.specs.declared.files.FileState.{FileState}
use Rattle.mounted_files.specs.declared.files.FileState.TheVariants.{Good, Bad}
use Rattle.mounted_files.specs.declared.files.MountedFile.{MountedFile}
use Rattle.mounted_files.proofs.LightLemmas.{visible-short}
use Rattle.mounted_files.proofs.PointLemmas.{points-of_mounts}
use Rattle.mounted_files.proofs.MapLemmas.{each-none}
use Rattle.mounted_files.proofs.ShownLemmas.{owned-visible}
use Rattle.set_split.specs.Involved.{owns}
use Rattle.storage_api.specs.declared.formats.Formats.{Ghosts}

-- the file of a mount's number
file_of : (all : List MountedFile) (m : ℕ) (mount : Mount)
    → slice_get (over (λ (file : MountedFile). file.mount) all) m ≡ Some mount
    → (file : MountedFile) × (slice_get all m ≡ Some file) × (file.mount ≡ mount)
file_of all m mount there =
    by (slice_get all m) refl (sym (slice_get-map (λ (file : MountedFile). file.mount) all m) ∙ there)
  where
    by : (o : Option MountedFile) → slice_get all m ≡ o
        → option_map (λ (file : MountedFile). file.mount) (slice_get all m) ≡ Some mount
        → (file : MountedFile) × (slice_get all m ≡ Some file) × (file.mount ≡ mount)
    by None is found = absurd (none-some mount (sym (ap (option_map (λ (file : MountedFile). file.mount)) is) ∙ found))
    by (Some file) is found =
        (file, is, same_Some file.mount mount (sym (ap (option_map (λ (file : MountedFile). file.mount)) is) ∙ found))

-- a mount owns what its file shows, where each file can be written again
shows-own : (IsStorable : Storing) (points : List Name) (i : ℕ) (mount : Mount) (state : FileState)
    → CanBeWritten IsStorable points i mount state → (name : Name) (entry : Entry)
    → map.get (visible_of state) name ≡ Some entry → owns points i name ≡ true
shows-own IsStorable points i mount (Good visible shadow) can name entry found = can.owned name entry found
shows-own IsStorable points i mount (Bad cause) can name entry found =
    each-none (λ n e. owns points i n ≡ true) name entry found

-- the shadow of a file has short texts where the file has
shadow-short : (state : FileState) → HasShortTexts state → AreShort (shadow_of state)
shadow-short (Good visible shadow) short = short.1
shadow-short (Bad cause) short = each-none _

short-at : (all : List MountedFile) (m : ℕ) (file : MountedFile) → HaveShortTexts all → slice_get all m ≡ Some file
    → HasShortTexts file.state
short-at [] m file short there = absurd (none-some file there)
short-at (first ∷ all) zero file short there =
    subst (λ (f : MountedFile). HasShortTexts f.state) (same_Some first file there) short.0
short-at (first ∷ all) (suc m) file short there = short-at all m file short.1 there

module _ {S : Type 0} (g : Ghosts S) where
  -- where a format goes by keys, what two maps hold can be held beside each other
  mixes-keywise : (kind : Kind) → g.is_keywise kind ≡ true → Mixes (formats_of g) kind
  mixes-keywise kind keywise first second keys one other from =
      g.held_is_storable kind keys (λ name entry found. by name entry (from name entry found))
    where
      by : (name : Name) (entry : Entry) → (map.get first name ≡ Some entry) ⊎ (map.get second name ≡ Some entry)
          → g.holds kind keys name entry
      by name entry (inl here) =
          g.held_alone kind first keys name entry keywise (g.storable_is_held kind first one name entry here)
      by name entry (inr there) =
          g.held_alone kind second keys name entry keywise (g.storable_is_held kind second other name entry there)

  mixes-counted : (kind : Kind) → may_count kind ≡ true → Mixes (formats_of g) kind
  mixes-counted Dump may = mixes-keywise Dump g.dump_is_keywise
  mixes-counted SimpleIni may = mixes-keywise SimpleIni g.ini_is_keywise
  mixes-counted Hosts may = absurd (true≢false (sym may))
  mixes-counted Json may = absurd (true≢false (sym may))

  module _ (all : List MountedFile) (procs : ℕ → KeyMap) (writable : AllCanBeWritten g.is_storable all) where
    abbrev points : List Name
    points = points_of (store_of all procs)

    same_points : files.points_of all ≡ points
    same_points = sym (points-of_mounts all)

    shown : (m : ℕ) (file : MountedFile) → slice_get all m ≡ Some file
        → wants points (visible_keys all) m ≡ visible_of file.state
    shown m file there =
        owned-visible points all (λ i other at name entry found. shows-own g.is_storable points i other.mount other.state (subst (λ (ps : List Name). CanBeWritten g.is_storable ps i other.mount other.state) same_points (writable i other at)) name entry found) m file there

    -- what a good file is to hold to begin with is what it holds
    begins-with : (ps : List Name) (m : ℕ) (mount : Mount) (state : FileState) → is_bad state ≡ false
        → CanBeWritten g.is_storable ps m mount state
        → g.is_storable mount.kind (relative mount.at (with_all (visible_of state) (shadow_of state)))
    begins-with ps m mount (Good visible shadow) good can = can.storable
    begins-with ps m mount (Bad cause) good can = absurd (true≢false good)

    begins-storable : (m : ℕ) → (store_of all procs).is_bad m ≡ false
        → IsStorableAt (formats_of g) (store_of all procs) (wants points (visible_keys all)) m
    begins-storable m good mount there =
        let found = file_of all m mount there in
        let file = found.0 in
        let state = file.state in
        let fine = sym (ap (λ o. option_map_or (λ (f : MountedFile). is_bad f.state) o false) found.1) ∙ good in
        let kept = ap (λ o. option_map_or (λ (f : MountedFile). shadow_of f.state) o no_keys) found.1 in
        subst (λ (at : Mount). g.is_storable at.kind (relative at.at (with_all (wants points (visible_keys all) m) ((store_of all procs).shadow m)))) found.2
        (subst (λ (shadow : KeyMap). g.is_storable file.mount.kind (relative file.mount.at (with_all (wants points (visible_keys all) m) shadow))) (sym kept)
        (subst (λ (visible : KeyMap). g.is_storable file.mount.kind (relative file.mount.at (with_all visible (shadow_of state)))) (sym (shown m file found.1))
        (begins-with (files.points_of all) m file.mount state fine (writable m file found.1))))

    -- the store of an opening is sound
    pub sound_store : HaveShortTexts all → IsMadeByKeys (over (λ file. file.mount) all)
        → IsSound (formats_of g) (store_of all procs)
    sound_store short made = record {
      storable = begins-storable;
      short = visible-short all short;
      shadow = λ m. by_file m (slice_get all m) refl;
      mixes = λ m mount there by_key. mixes-counted mount.kind (by_key-may_count made.keys (over (λ file. file.mount) all) made.is m mount there by_key);
      elsewhere = λ m mount there by_key. by_test m mount there by_key (name_eq mount.at own_point) refl;
    }
      where
        by_file : (m : ℕ) (o : Option MountedFile) → slice_get all m ≡ o
            → AreShort (option_map_or (λ (f : MountedFile). shadow_of f.state) (slice_get all m) no_keys)
        by_file m None is =
            subst (λ o. AreShort (option_map_or (λ (f : MountedFile). shadow_of f.state) o no_keys)) (sym is) (each-none _)
        by_file m (Some file) is =
            subst (λ o. AreShort (option_map_or (λ (f : MountedFile). shadow_of f.state) o no_keys)) (sym is) (shadow-short file.state (short-at all m file short is))

        by_test : (m : ℕ) (mount : Mount) → slice_get (over (λ (file : MountedFile). file.mount) all) m ≡ Some mount
            → mount.by_key ≡ true → (b : Bool) → name_eq mount.at own_point ≡ b → name_eq mount.at own_point ≡ false
        by_test m mount there by_key false is = is
        by_test m mount there by_key true is =
            absurd (true≢false (sym by_key ∙ own-by_backend made.keys (over (λ file. file.mount) all) made.is m mount there ((name_decides mount.at own_point).0 is)))
