-- The mounts of a table have files of their own, whose names are files' names that don't begin with `journal`.
use Rattle.std.proofs.Common.{◌≡◌, ◌≢◌, ◌⊎◌, ◌<◌, ◌≤◌, ℕ, length, zero, suc, true, false, cond, nat_eq, List, [], ◌∷◌, ◌++◌, map as over, get_or, slice_get, Some, Ok, codes, refl, sym, ap, subst, inl, inr, ◌∙◌, arith}
use Rattle.std.specs.Cmp.{tied_itself}
use Rattle.std.specs.FinMap as map
use Rattle.std.specs.FinMap.{FinMap}
use Rattle.std.specs.List.{AllByRecursion, starts_with}
use Rattle.std.specs.List.Sorted.{IsStrictlySortedBy}
use Rattle.std.specs.Option.{option_map}
use Rattle.std.specs.declared.cmp.Ordering.TheVariants.{Less, Equal}
use Rattle.std.proofs.lemmas.Bool.{cases_lt, or_parts}
use Rattle.std.proofs.lemmas.Map.Keys.{Less-from_sorted}
use Rattle.std.proofs.lemmas.Option.{slice_get-map, slice_get_within, get_or_from_slice_get}
use Rattle.general_words.specs.Texts.{is_text}
use Rattle.general_words.proofs.Entries.{keys_rise}
use Rattle.general_words.proofs.Lists.{some_is}
use Rattle.general_words.proofs.Maps.{each-insert, get-at}
use Rattle.general_words.proofs.Texts.{is_text-Decides}
use Rattle.kdb_outside.specs.FileName.{IsFileName}
use Rattle.kdb_outside.proofs.FileNameLemmas.{is_file_name-Decides}
use Rattle.model_names.specs.declared.namespaces.Namespace.{Namespace}
use Rattle.model_names.specs.declared.namespaces.Namespace.TheVariants.{Spec, Dir, User, System}
use Rattle.model_names.specs.Name.{Name, Part}
use Rattle.model_names.specs.Order.{name_cmp}
use Rattle.model_names.proofs.OrderLemmas.{name_cmp_total, name_cmp-IsAntisymmetric}
use Rattle.model_maps.specs.KeyMap.{KeyMap}
use Rattle.mount_table.specs.Entries.{Entries, entries_of}
use Rattle.mount_table.specs.Points.{own_point}
use Rattle.mount_table.specs.Reading.{is_taken}
use Rattle.mount_table.specs.Table.{remaining, by_point, most_mounts, table_of}
use Rattle.mount_table.specs.declared.entries.MountEntry.{MountEntry}
use Rattle.mount_table.specs.declared.mounts.Mount.{Mount}
use Rattle.mount_table.proofs.TableLemmas.{IsMade, IsNext, IsGood, IsTableOf, all_good, all_remaining, by_point-each, by_point-snoc, mounts_from-keeps, table-is}

-- two mounts of a table with one file are one
abbrev HaveOwn : FinMap name_cmp Mount → Type 0
HaveOwn table =
    (p q : Name) (a b : Mount) → map.get table p ≡ Some a → map.get table q ≡ Some b → a.file ≡ b.file → p ≡ q

-- ---- one mount more

other_files : (mounts : List Mount) (file : List ℕ) → is_taken mounts file ≡ false
    → AllByRecursion (λ other. other.file ≢ file) mounts
other_files [] file h = tt
other_files (mount ∷ mounts) file h =
    let parts = or_parts (is_text file mount.file) (is_taken mounts file) h in
    ((λ e. let same : is_text file mount.file ≡ true = (is_text-Decides file mount.file).1 (sym e) in let other = parts.0 in absurd cc), other_files mounts file parts.1)

own_insert : (table : FinMap name_cmp Mount) (mount : Mount)
    → ((p : Name) (a : Mount) → map.get table p ≡ Some a → a.file ≢ mount.file) → HaveOwn table
    → HaveOwn (map.insert table mount.at mount)
own_insert table mount others own p q a b at_p at_q =
    each-insert name_cmp_total name_cmp-IsAntisymmetric (λ (p : Name) (a : Mount). (q : Name) (b : Mount) → map.get (map.insert table mount.at mount) q ≡ Some b → a.file ≡ b.file → p ≡ q) table mount.at mount
    (λ p a at_p q b at_q. each-insert name_cmp_total name_cmp-IsAntisymmetric (λ (q : Name) (b : Mount). a.file ≡ b.file → p ≡ q) table mount.at mount (λ q b at_q same. own p q a b at_p at_q same) (λ same. absurd (others p a at_p same)) q b at_q)
    (λ q b at_q. each-insert name_cmp_total name_cmp-IsAntisymmetric (λ (q : Name) (b : Mount). mount.file ≡ b.file → mount.at ≡ q) table mount.at mount (λ q b at_q same. absurd (others q b at_q (sym same))) (λ same. refl) q b at_q)
    p a at_p q b at_q

own_push : (entry : Part × MountEntry) (entries : List (Part × MountEntry)) (mounts : List Mount) (mount : Mount)
    → IsNext mounts entry.0 mount → HaveOwn (by_point mounts) → HaveOwn (by_point (mounts ++ mount ∷ []))
own_push entry entries mounts mount next own =
    let others = by_point-each (λ other. other.file ≢ mount.file) mounts (other_files mounts mount.file next.new_file) in
    subst HaveOwn (sym (by_point-snoc mounts mount)) (own_insert (by_point mounts) mount (λ p a found. (others p a found).1) own)

-- ---- the default mounts

abbrev root : Namespace → Name
root namespace = record { namespace = namespace; parts = [] }

-- where the default mount of a file is
abbrev default_at : List ℕ → Name
default_at file =
    cond (is_text file (codes "spec.ecf")) (root Spec) (cond (is_text file (codes "dir.ecf")) (root Dir) (cond (is_text file (codes "user.ecf")) (root User) (cond (is_text file (codes "system.ecf")) (root System) own_point)))

own_remaining : (entries : Entries) → HaveOwn (by_point (remaining entries))
own_remaining entries p q a b at_p at_q same =
    let each = by_point-each (λ mount. mount.at ≡ default_at mount.file) (remaining entries) (all_remaining (λ mount. mount.at ≡ default_at mount.file) entries (refl, (refl, (refl, (refl, tt)))) refl) in
    let one = each p a at_p in
    let other = each q b at_q in
    sym one.0 ∙ one.1 ∙ ap default_at same ∙ sym other.1 ∙ other.0

own_made : (entries : Entries) (all : List Mount) → IsMade entries all → HaveOwn (by_point all)
own_made entries all is =
    mounts_from-keeps (λ _ mounts. HaveOwn (by_point mounts)) own_push (remaining entries) (map.entries entries) all is (own_remaining entries)

-- ---- by places

entry_at : (es : List (Name × Mount)) (i : ℕ) (mount : Mount) → slice_get (over (λ e. e.1) es) i ≡ Some mount
    → (point : Name) × (Some (point, mount) ≡ slice_get es i)
entry_at [] i mount there = absurd cc
entry_at (e ∷ es) zero mount there = (e.0, ap (λ (m : Mount). Some (e.0, m)) (sym (some_is e.1 mount there)))
entry_at (e ∷ es) (suc i) mount there = entry_at es i mount there

-- a point stands at one place
pub one_place : (points : List Name) (point : Name) (i j : ℕ) → IsStrictlySortedBy name_cmp points
    → slice_get points i ≡ Some point → slice_get points j ≡ Some point → i ≡ j
one_place points point i j sorted at_i at_j = by (cases_lt i j) (cases_lt j i)
  where
    apart : (k n : ℕ) → k < n → slice_get points k ≡ Some point → slice_get points n ≡ Some point → ⊥
    apart k n lt at_k at_n =
        let less = Less-from_sorted name_cmp points k n point sorted lt (slice_get_within points n point at_n) in
        let one = get_or_from_slice_get points k point point at_k in
        let other = get_or_from_slice_get points n point point at_n in
        let tie : Less ≡ Equal = sym less ∙ (ap (λ p. name_cmp p (get_or points n point)) one ∙ ap (name_cmp point) other) ∙ tied_itself name_cmp_total point in
        absurd cc

    by : (i < j) ⊎ (j ≤ i) → (j < i) ⊎ (i ≤ j) → i ≡ j
    by (inl lt) other = absurd (apart i j lt at_i at_j)
    by (inr le) (inl lt) = absurd (apart j i lt at_j at_i)
    by (inr le) (inr ge) = omega (arith, le, ge)

own_at : (table : FinMap name_cmp Mount) → HaveOwn table → (i j : ℕ) (one other : Mount)
    → slice_get (map.values table) i ≡ Some one → slice_get (map.values table) j ≡ Some other → one.file ≡ other.file
    → i ≡ j
own_at table own i j one other there here same =
    let first = entry_at (map.entries table) i one there in
    let second = entry_at (map.entries table) j other here in
    let alike = own first.0 second.0 one other (get-at name_cmp_total table i (first.0, one) first.1) (get-at name_cmp_total table j (second.0, other) second.1) same in
    one_place (map.keys table) first.0 i j (keys_rise name_cmp (map.entries table) (map.entries_sorted table))
    (slice_get-map (λ (e : Name × Mount). e.0) (map.entries table) i ∙ ap (option_map (λ (e : Name × Mount). e.0)) (sym first.1))
    (slice_get-map (λ (e : Name × Mount). e.0) (map.entries table) j ∙ ap (option_map (λ (e : Name × Mount). e.0)) (sym second.1) ∙ ap (λ (p : Name). Some p) (sym alike))

good_at : (table : FinMap name_cmp Mount)
    → ((point : Name) (mount : Mount) → map.get table point ≡ Some mount → IsGood mount) → (i : ℕ) (mount : Mount)
    → slice_get (map.values table) i ≡ Some mount → IsGood mount
good_at table good i mount there =
    let found = entry_at (map.entries table) i mount there in good found.0 mount (get-at name_cmp_total table i (found.0, mount) found.1)

-- ---- the table

module _ (keys : KeyMap) (mounts : List Mount) (ok : table_of keys ≡ Ok mounts) where
  table : IsTableOf (entries_of keys) mounts
  table = table-is keys mounts ok

  pub own_files : (i j : ℕ) (one other : Mount) → slice_get mounts i ≡ Some one → slice_get mounts j ≡ Some other
      → one.file ≡ other.file → i ≡ j
  own_files =
      subst (λ (ms : List Mount). (i j : ℕ) (one other : Mount) → slice_get ms i ≡ Some one → slice_get ms j ≡ Some other → one.file ≡ other.file → i ≡ j) table.ordered (own_at (by_point table.all) (own_made (entries_of keys) table.all table.made))

  pub good_mounts : (i : ℕ) (mount : Mount) → slice_get mounts i ≡ Some mount → IsGood mount
  good_mounts =
      subst (λ (ms : List Mount). (i : ℕ) (mount : Mount) → slice_get ms i ≡ Some mount → IsGood mount) table.ordered
      (good_at (by_point table.all) (λ point mount found. (by_point-each IsGood table.all (all_good (entries_of keys) table.all table.made) point mount found).1))

  pub free_files : (i : ℕ) (mount : Mount) → slice_get mounts i ≡ Some mount
      → starts_with nat_eq mount.file (codes "journal") ≡ false
  free_files i mount there = (good_mounts i mount there).free

  pub named_files : (i : ℕ) (mount : Mount) → slice_get mounts i ≡ Some mount → IsFileName mount.file
  named_files i mount there = (is_file_name-Decides mount.file).0 (good_mounts i mount there).named

  pub few_mounts : length mounts ≤ most_mounts
  few_mounts = table.few
