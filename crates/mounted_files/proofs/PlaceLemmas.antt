-- The table's own mount is one of its mounts, at one place.
use Rattle.std.proofs.Common.{◌≡◌, ◌≢◌, ◌⊎◌, ℕ, suc, ◌+◌, ◌<◌, ◌≤◌, Bool, true, false, not, ◌&&◌, nat_le, cond, List, [], ◌∷◌, ◌++◌, length, get_or, map as over, filter, slice_get, Some, Ok, Err, inl, inr, sym, ap, subst, ◌∙◌, arith}
use Rattle.std.specs.FinMap as map
use Rattle.std.specs.FinMap.Entries.{find}
use Rattle.std.specs.List.Sorted.{IsStrictlySortedBy}
use Rattle.std.specs.Option.{option_map}
use Rattle.std.specs.Ordering.{eq_by_cmp}
use Rattle.std.proofs.lemmas.Bool.{and_parts, cases_lt}
use Rattle.std.proofs.lemmas.Option.{slice_get-map, same_Some}
use Rattle.general_words.proofs.Lists.{at_place}
use Rattle.general_words.proofs.Lookups.{get-elsewhere}
use Rattle.general_words.proofs.Maps.{get-insert_same}
use Rattle.general_words.specs.Texts.{is_text}
use Rattle.model_names.specs.Below.{is_at_or_below}
use Rattle.model_names.specs.Name.{Name, Part}
use Rattle.model_names.specs.Namespaces.{has_files}
use Rattle.model_names.specs.Order.{name_cmp, name_eq}
use Rattle.model_names.specs.Spelling.{spelling}
use Rattle.model_names.proofs.OrderLemmas.{name_cmp_total, name_cmp-IsAntisymmetric, name_decides}
use Rattle.model_maps.specs.KeyMap.{KeyMap}
use Rattle.mount_table.specs.Entries.{entries_of}
use Rattle.mount_table.specs.Points.{longest_point, own_point}
use Rattle.mount_table.specs.Reading.{next_mount, is_taken, mounts_from}
use Rattle.mount_table.specs.Table.{by_point, in_order, limited, own_mount, remaining, remains, root_mounts, table_of}
use Rattle.mount_table.specs.declared.entries.MountEntry.{MountEntry}
use Rattle.mount_table.specs.declared.faults.TableFault.TheVariants.{TooMany}
use Rattle.mount_table.specs.declared.mounts.Mount.{Mount}
use Rattle.mount_table.proofs.OwnFileLemmas.{one_place}
use Rattle.mount_table.proofs.TableLemmas.{IsPoint-from, by_point-snoc, from_then, ok_is, point_of-next}
use Rattle.mounted_files.specs.OwnPlace.{HasOwn}

pub own-name_eq : (point : Name) → point ≡ own_point → name_eq point own_point ≡ true
own-name_eq point is = (name_decides point own_point).1 is

-- what is found among entries stands among them
find-place : {X : Type 0} (q : Name) (es : List (Name × X)) (v : X) → find name_cmp q es ≡ Some v
    → (i : ℕ) × (slice_get (over (λ e. e.1) es) i ≡ Some v)
find-place q [] v found = absurd cc
find-place q (e ∷ es) v found = by (find-place q es v) (eq_by_cmp name_cmp q e.0) found
  where
    by : (find name_cmp q es ≡ Some v → (i : ℕ) × (slice_get (over (λ e. e.1) es) i ≡ Some v)) → (b : Bool)
        → cond b (Some e.1) (find name_cmp q es) ≡ Some v → (i : ℕ) × (slice_get (over (λ e. e.1) (e ∷ es)) i ≡ Some v)
    by rest true here = (0, here)
    by rest false there = let found = rest there in (suc found.0, found.1)

-- the own mount is found under its point
abbrev IsFound : List Mount → Type 0
IsFound mounts = map.get (by_point mounts) own_point ≡ Some own_mount

found-more : (mounts : List Mount) (mount : Mount) → IsFound mounts → own_point ≢ mount.at
    → IsFound (mounts ++ mount ∷ [])
found-more mounts mount found other =
    ap (λ table. map.get table own_point) (by_point-snoc mounts mount)
    ∙ (get-elsewhere name_cmp_total name_cmp-IsAntisymmetric (by_point mounts) mount.at mount own_point other ∙ found)

-- no entry has the own point
not_own : (taken : List ℕ → Bool) (text : Part) (said : MountEntry) (mount : Mount)
    → next_mount taken text said ≡ Ok mount → own_point ≢ mount.at
not_own taken text said mount next same =
    let is = (IsPoint-from text mount.at (point_of-next taken text said mount next)).is in
    let apart = not (is_at_or_below own_point mount.at) in
    let spelled = is_text (spelling mount.at) text in
    let tests = and_parts (has_files mount.at.namespace) (nat_le (length text) longest_point && (spelled && apart)) is in
    let more = and_parts (nat_le (length text) longest_point) (spelled && apart) tests.1 in
    let last = and_parts spelled apart more.1 in
    let below : not (is_at_or_below own_point own_point) ≡ true = subst (λ (p : Name). not (is_at_or_below own_point p) ≡ true) (sym same) last.1 in
    let wrong : false ≡ true = below in cc

found-all : (mounts : List Mount) (entries : List (Part × MountEntry)) (all : List Mount) → IsFound mounts
    → mounts_from mounts entries ≡ Ok all → IsFound all
found-all mounts [] all found is = subst IsFound (ok_is mounts all is) found
found-all mounts (entry ∷ entries) all found is =
    let next = from_then (next_mount (is_taken mounts) entry.0 entry.1) (λ mount. mounts_from (mounts ++ mount ∷ []) entries) all is in
    found-all (mounts ++ next.0 ∷ []) entries all (found-more mounts next.0 found (not_own (is_taken mounts) entry.0 entry.1 next.0 next.1)) next.2

pub own-there : (keys : KeyMap) (mounts : List Mount) → table_of keys ≡ Ok mounts → HasOwn mounts
own-there keys mounts is =
    let entries = entries_of keys in
    let made = from_then (mounts_from (remaining entries) (map.entries entries)) (λ all. limited (in_order all)) mounts is in
    let first : IsFound (remaining entries) = ap (λ table. map.get table own_point) (by_point-snoc (filter (remains entries) root_mounts) own_mount) ∙ get-insert_same name_cmp_total (by_point (filter (remains entries) root_mounts)) own_point own_mount in
    let found = found-all (remaining entries) (map.entries entries) made.0 first made.1 in
    let place = find-place own_point (map.entries (by_point made.0)) own_mount (sym (map.get-entries (by_point made.0) own_point) ∙ found) in
    record {
      place = place.0;
      is = subst (λ ms. slice_get ms place.0 ≡ Some own_mount) (kept (in_order made.0) _ made.2) place.1;
    }
  where
    kept : (all : List Mount) (b : Bool) → cond b (Err (TooMany (length all))) (Ok all) ≡ Ok mounts → all ≡ mounts
    kept all true e = absurd cc
    kept all false e = ok_is all mounts e

-- ---- the search for its place

module _ (table : List Mount) (points : List Name) (told : points ≡ over (λ (mount : Mount). mount.at) table) (i : ℕ) (point : Name) (within : i < length points) (read : point ≡ get_or points i point) where
  there : slice_get points i ≡ Some point
  there = sym (at_place points i point within read)

  point_at : (j : ℕ) → slice_get table j ≡ Some own_mount → slice_get points j ≡ Some own_point
  point_at j at_j =
      ap (λ ps. slice_get ps j) told
      ∙ (slice_get-map (λ (mount : Mount). mount.at) table j ∙ ap (option_map (λ (mount : Mount). mount.at)) at_j)

  -- a mount at the own point is the own mount
  pub own-found : HasOwn table → IsStrictlySortedBy name_cmp points → name_eq point own_point ≡ true
      → slice_get table i ≡ Some own_mount
  own-found has sorted is =
      let same = one_place points own_point i has.place sorted (there ∙ ap Some ((name_decides point own_point).0 is)) (point_at has.place has.is) in
      ap (slice_get table) same ∙ has.is

  -- at another point it doesn't stand
  pub own-later : name_eq point own_point ≡ false → ((j : ℕ) → slice_get table j ≡ Some own_mount → i ≤ j) → (j : ℕ)
      → slice_get table j ≡ Some own_mount → i + 1 ≤ j
  own-later other before j at_j = by (cases_lt i j)
    where
      by : (i < j) ⊎ (j ≤ i) → i + 1 ≤ j
      by (inl lt) = omega (arith, lt)
      by (inr le) =
          let i_is : i ≡ j = omega (arith, le, before j at_j) in
          let point_is = same_Some point own_point (sym there ∙ (ap (slice_get points) i_is ∙ point_at j at_j)) in
          absurd (let both = sym other ∙ own-name_eq point point_is in cc)
