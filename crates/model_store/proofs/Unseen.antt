-- A set whose involved mounts were all seen is refused for none of them.
use Rattle.std.proofs.Common.{◌≡◌, ℕ, Bool, true, false, cond, nat_lt, if◌then◌else◌, List, [], ◌∷◌, length, slice_get, Option, Some, None, Result, Ok, Err, refl, ap, ◌∙◌, inl, inr}
use Rattle.std.specs.Option.{option_and_then, option_map, option_or}
use Rattle.backend_files.specs.WholeFile.{longest_file}
use Rattle.general_words.specs.Saturated.{saturated}
use Rattle.general_words.specs.Searches.{first_some}
use Rattle.model_names.specs.Name.{Name}
use Rattle.model_names.specs.Order.{name_eq}
use Rattle.model_maps.specs.KeyMap.{KeyMap, weight, heaviest_map}
use Rattle.mounted_files.specs.Setting.{first_long_in}
use Rattle.mount_table.specs.Points.{own_point}
use Rattle.mount_table.specs.Table.{table_of}
use Rattle.mount_table.specs.declared.faults.TableFault.{TableFault}
use Rattle.mount_table.specs.declared.mounts.Mount.{Mount}
use Rattle.model_store.specs.Fitting.{Early, NotFetched, ValueTooLong, TooHeavy, NotStorable, TooLong, BadTable, heavy_contents, too_heavy, long_text, too_long, fault_of_table, bad_table}
use Rattle.model_store.specs.Sets.{Prepared}
use Rattle.model_store.specs.Store.{Store, Formats, contents, points_of}
use Rattle.model_store.specs.Verdicts.{Follows, IsEarly, FromFormats, wanted_in, not_fetched, long_value, before_formats}

abbrev is_unseen : Option Early → Bool
is_unseen None = false
is_unseen (Some (NotFetched m)) = true
is_unseen (Some (ValueTooLong name n)) = false
is_unseen (Some (TooHeavy m n)) = false
is_unseen (Some (NotStorable m name)) = false
is_unseen (Some (TooLong m n)) = false
is_unseen (Some (BadTable fault)) = false

either : (o p : Option Early) → is_unseen o ≡ false → is_unseen p ≡ false → is_unseen (option_or o p) ≡ false
either None p a b = b
either (Some why) p a b = a

first_of : (f : ℕ → Option Early) (ms : List ℕ) → ((m : ℕ) → is_unseen (f m) ≡ false)
    → is_unseen (first_some f ms) ≡ false
first_of f [] each = refl
first_of f (m ∷ ms) each = either (f m) (first_some f ms) (each m) (first_of f ms each)

chosen : (b : Bool) (o : Option Early) → is_unseen o ≡ false → is_unseen (cond b o None) ≡ false
chosen true o off = off
chosen false o off = refl

at_each : (store : Store) (told : ℕ → Mount → Option Early) (m : ℕ)
    → ((mount : Mount) → is_unseen (told m mount) ≡ false) → (o : Option Mount)
    → is_unseen (option_and_then (told m) o) ≡ false
at_each store told m off None = refl
at_each store told m off (Some mount) = off mount

follows_off : (o answer : Option Early) (P : Type 0) → is_unseen o ≡ false → (P → is_unseen answer ≡ false)
    → Follows o answer P → is_unseen answer ≡ false
follows_off None answer P off behind p = behind p
follows_off (Some told) answer P off behind p = ap is_unseen p ∙ off

-- a set whose involved mounts were all seen is refused for none of them
module _ (formats : Formats) (store : Store) (set : Prepared) (seen : not_fetched set ≡ None) where
  abbrev wanted : ℕ → KeyMap
  wanted = wanted_in store set

  long_off : is_unseen (long_value store set) ≡ false
  long_off = by (first_long_in (points_of store) set.involved set.keys)
    where
      by : (o : Option (Name × ℕ)) → is_unseen (option_map (λ long. ValueTooLong long.0 long.1) o) ≡ false
      by None = refl
      by (Some long) = refl

  heavy_off : is_unseen (first_some (too_heavy store wanted) set.touched) ≡ false
  heavy_off = first_of (too_heavy store wanted) set.touched (λ m.
      at_each store (λ n mount. heavy_contents n (contents store n mount (wanted n))) m
      (λ mount. chosen (nat_lt heaviest_map (weight (contents store m mount (wanted m)))) (Some (TooHeavy m (saturated (weight (contents store m mount (wanted m)))))) refl) (slice_get store.mounts m))

  text_off : is_unseen (first_some (too_long formats store wanted) set.touched) ≡ false
  text_off = first_of (too_long formats store wanted) set.touched (λ m.
      at_each store (λ n mount. long_text n (formats.text mount.kind (contents store n mount (wanted n)))) m
      (λ mount. let bytes = formats.text mount.kind (contents store m mount (wanted m)) in chosen (nat_lt longest_file (length bytes)) (Some (TooLong m (length bytes))) refl) (slice_get store.mounts m))

  table_off : is_unseen (first_some (bad_table store wanted) set.touched) ≡ false
  table_off = first_of (bad_table store wanted) set.touched (λ m.
      at_each store (λ n mount. if name_eq mount.at own_point then fault_of_table (table_of (wanted n)) else None) m
      (λ mount. chosen (name_eq mount.at own_point) (fault_of_table (table_of (wanted m))) (of_table (table_of (wanted m)))) (slice_get store.mounts m))
    where
      of_table : {A : Type 0} (r : Result A TableFault) → is_unseen (fault_of_table r) ≡ false
      of_table (Ok mounts) = refl
      of_table (Err fault) = refl

  before_off : is_unseen (before_formats store set) ≡ false
  before_off = either (not_fetched set) _ (ap is_unseen seen) (either (long_value store set) _ long_off heavy_off)

  behind_off : (answer : Option Early) → FromFormats formats store set answer → is_unseen answer ≡ false
  behind_off answer (inl breaks) = ap is_unseen breaks.is
  behind_off answer (inr can) =
      ap is_unseen can.1 ∙ either (first_some (too_long formats store wanted) set.touched) _ text_off table_off

  pub never_unseen : (early : Option Early) (m : ℕ) → IsEarly formats store set early → early ≡ Some (NotFetched m) → ⊥
  never_unseen early m is unseen =
      let off : is_unseen early ≡ false = follows_off (before_formats store set) early _ before_off (behind_off early) is in
      let on : is_unseen early ≡ true = ap is_unseen unseen in
      absurd cc
