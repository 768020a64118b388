-- No mount of a table is lost where the mounts are put in their order, since no two have one mountpoint.
use Rattle.std.proofs.Common.{◌≡◌, ◌≢◌, ◌⊎◌, ◌+◌, ◌||◌, ℕ, Bool, true, false, cond, T, List, [], ◌∷◌, ◌++◌, length, filter, None, is_some, Ok, refl, sym, ap, ◌∙◌, inl, inr, arith, length-append}
use Rattle.std.specs.Cmp.{Equal-is}
use Rattle.std.specs.FinMap as map
use Rattle.std.specs.FinMap.{FinMap, is_sorted}
use Rattle.std.specs.FinMap.Entries.{below_all}
use Rattle.std.specs.List.{AllByRecursion}
use Rattle.std.specs.Ordering.{eq_by_cmp, is_eq}
use Rattle.std.proofs.lemmas.Bool.{or_parts, cond-false, false_from_ne_true, not-true, true≢false}
use Rattle.std.proofs.lemmas.Cmp.{nat_list_cmp_total}
use Rattle.std.proofs.lemmas.List.{length-map}
use Rattle.model_names.specs.Below.{is_at_or_below}
use Rattle.model_names.specs.Name.{Name, Part, rank}
use Rattle.model_names.specs.Order.{name_cmp}
use Rattle.model_names.specs.Spelling.{spelling}
use Rattle.model_names.proofs.OrderLemmas.{name_cmp_total, name_cmp-IsAntisymmetric}
use Rattle.general_words.specs.Texts.{text_cmp}
use Rattle.general_words.proofs.Tests.{first, second}
use Rattle.general_words.proofs.Orders.{itself, less}
use Rattle.general_words.proofs.Lists.{all_append}
use Rattle.model_maps.specs.KeyMap.{KeyMap}
use Rattle.mount_table.specs.Entries.{Entries, entries_of}
use Rattle.mount_table.specs.Points.{own_point}
use Rattle.mount_table.specs.Table.{root_mounts, own_mount, remains, remaining, by_point, in_order, table_of}
use Rattle.mount_table.specs.declared.entries.MountEntry.{MountEntry}
use Rattle.mount_table.specs.declared.mounts.Mount.{Mount}
use Rattle.mount_table.proofs.TableLemmas.{IsNext, is_among, all_filter, all_turned, mounts_from-keeps, table-is, with_mounts}

-- no mount has the mountpoint of one before it
abbrev IsApart : List Mount → Type 0
IsApart [] = Unit {0}
IsApart (mount ∷ mounts) = AllByRecursion (λ other. other.at ≢ mount.at) mounts × IsApart mounts

-- ---- a mount more for each one that is put in its place

still_new : (table : FinMap name_cmp Mount) (mount : Mount) (mounts : List Mount)
    → AllByRecursion (λ other. other.at ≢ mount.at) mounts
    → AllByRecursion (λ other. map.get table other.at ≡ None) mounts
    → AllByRecursion (λ other. map.get (map.insert table mount.at mount) other.at ≡ None) mounts
still_new table mount [] apart new = tt
still_new table mount (other ∷ mounts) apart new = (
  map.get-insert name_cmp_total table mount.at mount other.at ∙ cond-false _ _ _ (false_from_ne_true _ (λ e. apart.0 (name_cmp-IsAntisymmetric other.at mount.at ((Equal-is (name_cmp other.at mount.at)).0 e)))) ∙ new.0,
  still_new table mount mounts apart.1 new.1,
)

len-apart : (mounts : List Mount) (table : FinMap name_cmp Mount) → IsApart mounts
    → AllByRecursion (λ mount. map.get table mount.at ≡ None) mounts
    → map.len (with_mounts table mounts) ≡ map.len table + length mounts
len-apart [] table apart new = omega arith
len-apart (mount ∷ mounts) table apart new =
    let one : map.len (map.insert table mount.at mount) ≡ map.len table + 1 = map.len-insert name_cmp_total table mount.at mount ∙ ap (λ o. cond (is_some o) (map.len table) (map.len table + 1)) new.0 in
    omega (arith, one, len-apart mounts (map.insert table mount.at mount) apart.1 (still_new table mount mounts apart.0 new.1))

all_new : (mounts : List Mount)
    → AllByRecursion (λ mount. map.get (map.empty {X = Mount} {R = name_cmp}) mount.at ≡ None) mounts
all_new [] = tt
all_new (mount ∷ mounts) = (map.get-empty name_cmp mount.at, all_new mounts)

-- ---- the mounts of a table are apart

apart_push : (mounts : List Mount) (mount : Mount) → IsApart mounts
    → AllByRecursion (λ other. mount.at ≢ other.at) mounts → IsApart (mounts ++ mount ∷ [])
apart_push [] mount apart others = (tt, tt)
apart_push (other ∷ mounts) mount apart others =
    (all_append (λ x. x.at ≢ other.at) mounts (mount ∷ []) apart.0 (others.0, tt), apart_push mounts mount apart.1 others.1)

apart_filter : (test : Mount → Bool) (mounts : List Mount) → IsApart mounts → IsApart (filter test mounts)
apart_filter test [] apart = tt
apart_filter test (mount ∷ mounts) apart = elim (test mount) as (λ b. IsApart (cond b (mount ∷ filter test mounts) (filter test mounts))) [
  | true ↦ (all_filter (λ other. other.at ≢ mount.at) test mounts apart.0, apart_filter test mounts apart.1)
  | false ↦ apart_filter test mounts apart.1
]

-- no entry that is left has a mount's mountpoint: it is where no entry may be, or no entry has its text
abbrev IsOther : List (Part × MountEntry) → Mount → Type 0
IsOther entries mount = (is_at_or_below own_point mount.at ≡ true) ⊎ (is_among (spelling mount.at) entries ≡ false)

other_rest : (entry : Part × MountEntry) (entries : List (Part × MountEntry)) (mount : Mount)
    → IsOther (entry ∷ entries) mount → IsOther entries mount
other_rest entry entries mount (inl own) = inl own
other_rest entry entries mount (inr none) = inr (or_parts _ _ none).1

other_point : (entry : Part × MountEntry) (entries : List (Part × MountEntry)) (at : Name) → spelling at ≡ entry.0
    → is_at_or_below own_point at ≡ false → (mount : Mount) → IsOther (entry ∷ entries) mount → at ≢ mount.at
other_point entry entries at spelled outside mount (inl own) e =
    true≢false (sym own ∙ ap (is_at_or_below own_point) (sym e) ∙ outside)
other_point entry entries at spelled outside mount (inr none) e =
    true≢false (sym (itself nat_list_cmp_total entry.0) ∙ ap (λ text. eq_by_cmp text_cmp text entry.0) (sym spelled ∙ ap spelling e) ∙ (or_parts (eq_by_cmp text_cmp (spelling mount.at) entry.0) _ none).0)

later_texts : (text : Part) (entries : List (Part × MountEntry)) → T (below_all text_cmp text entries)
    → is_among text entries ≡ false
later_texts text [] h = refl
later_texts text (entry ∷ entries) h =
    ap (λ o. is_eq o || is_among text entries) (less _ (first _ _ h)) ∙ later_texts text entries (second _ _ h)

-- the mounts so far, and the entries that are left: those that make `total` mounts
record Counts (total : ℕ) (entries : List (Part × MountEntry)) (mounts : List Mount) : Type 0 where
  apart : IsApart mounts
  others : AllByRecursion (IsOther entries) mounts
  sorted : T (is_sorted text_cmp entries)
  count : length mounts + length entries ≡ total

counts_push : (total : ℕ) (entry : Part × MountEntry) (entries : List (Part × MountEntry)) (mounts : List Mount)
    (mount : Mount) → IsNext mounts entry.0 mount → Counts total (entry ∷ entries) mounts
    → Counts total entries (mounts ++ mount ∷ [])
counts_push total entry entries mounts mount next so_far =
    let later : IsOther entries mount = inr (ap (λ text. is_among text entries) next.spelled ∙ later_texts entry.0 entries (first _ _ so_far.sorted)) in
    record {
      apart = apart_push mounts mount so_far.apart (all_turned (IsOther (entry ∷ entries)) (λ other. mount.at ≢ other.at) (other_point entry entries mount.at next.spelled next.outside) mounts so_far.others);
      others = all_append (IsOther entries) mounts (mount ∷ []) (all_turned (IsOther (entry ∷ entries)) (IsOther entries) (other_rest entry entries) mounts so_far.others) (later, tt);
      sorted = second _ _ so_far.sorted;
      count = omega (arith, so_far.count, length-append mounts (mount ∷ []));
    }

-- ---- the default mounts that remain

passes : (entries : Entries) (mounts : List Mount)
    → AllByRecursion (IsOther (map.entries entries)) (filter (remains entries) mounts)
passes entries [] = tt
passes entries (mount ∷ mounts) = by (remains entries mount) refl (passes entries mounts)
  where
    by : (b : Bool) → remains entries mount ≡ b
        → AllByRecursion (IsOther (map.entries entries)) (filter (remains entries) mounts)
        → AllByRecursion (IsOther (map.entries entries)) (cond b (mount ∷ filter (remains entries) mounts) (filter (remains entries) mounts))
    by true is rest = (inr (sym (map.contains_key-keys entries (spelling mount.at)) ∙ not-true _ is), rest)
    by false is rest = rest

other_rank : (a b : Name) → (rank a.namespace ≡ rank b.namespace → ⊥) → a ≢ b
other_rank a b h e = h (ap (λ n. rank n.namespace) e)

other_length : (a b : Name) → (length a.parts ≡ length b.parts → ⊥) → a ≢ b
other_length a b h e = h (ap (λ n. length n.parts) e)

roots_apart : IsApart root_mounts
roots_apart = (
  (other_rank _ _ (λ e. omega (arith, e)), (other_rank _ _ (λ e. omega (arith, e)), (other_rank _ _ (λ e. omega (arith, e)), tt))),
  (
    (other_rank _ _ (λ e. omega (arith, e)), (other_rank _ _ (λ e. omega (arith, e)), tt)),
    ((other_rank _ _ (λ e. omega (arith, e)), tt), (tt, tt)),
  ),
)

own_apart : AllByRecursion (λ mount. own_mount.at ≢ mount.at) root_mounts
own_apart =
    (other_length _ _ (λ e. omega (arith, e)), (other_length _ _ (λ e. omega (arith, e)), (other_length _ _ (λ e. omega (arith, e)), (other_length _ _ (λ e. omega (arith, e)), tt))))

-- ---- the table

pub each_mount : (keys : KeyMap) (mounts : List Mount) → table_of keys ≡ Ok mounts
    → length mounts ≡ length (remaining (entries_of keys)) + length (map.entries (entries_of keys))
each_mount keys mounts ok =
    let entries = entries_of keys in
    let read = table-is keys mounts ok in
    let total = length (remaining entries) + length (map.entries entries) in
    let counted = mounts_from-keeps (Counts total) (counts_push total) (remaining entries) (map.entries entries) read.all read.made (record {
      apart = apart_push (filter (remains entries) root_mounts) own_mount (apart_filter (remains entries) root_mounts roots_apart) (all_filter (λ mount. own_mount.at ≢ mount.at) (remains entries) root_mounts own_apart);
      others = all_append (IsOther (map.entries entries)) (filter (remains entries) root_mounts) (own_mount ∷ []) (passes entries root_mounts) (inl refl, tt);
      sorted = map.entries_sorted entries;
      count = refl;
    }) in
    let placed : map.len (by_point read.all) ≡ length read.all = len-apart read.all map.empty counted.apart (all_new read.all) ∙ ap (λ n. n + length read.all) (map.len-empty name_cmp Mount) ∙ omega arith in
    let listed : length (in_order read.all) ≡ map.len (by_point read.all) = length-map (map.entries (by_point read.all)) (λ e. e.1) ∙ sym (map.len-entries (by_point read.all)) in
    omega (arith, ap length read.ordered, listed, placed, counted.count)
