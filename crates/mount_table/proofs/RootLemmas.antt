-- A name whose keys are in files has an owner in each table: a mount stands at the root of its namespace.
use Rattle.std.proofs.Common.{◌≡◌, ◌⊎◌, ◌||◌, ◌&&◌, ℕ, zero, suc, ◌+◌, ◌<◌, ◌≤◌, Bool, true, false, cond, true≢false, List, [], ◌∷◌, length, get_or, map as over, filter, Some, None, is_none, Ok, codes, refl, sym, ap, subst, ◌∙◌, inl, inr, arith}
use Rattle.std.specs.Cmp.{Equal-is}
use Rattle.std.specs.FinMap as map
use Rattle.std.specs.List.{AllByRecursion, list_all, list_any}
use Rattle.std.specs.List.Sorted.{IsStrictlySortedBy}
use Rattle.std.specs.Ordering.{eq_by_cmp}
use Rattle.std.specs.Str.{is_utf8}
use Rattle.std.proofs.lemmas.Str.{is_utf8-from_IsUtf8}
use Rattle.std.proofs.lemmas.Bool.{cases_Bool, cond-true, not_from_false, and_from, eq-eqb}
use Rattle.std.proofs.lemmas.List.{get_or_default, length-map}
use Rattle.general_words.proofs.Lists.{some_is}
use Rattle.general_words.proofs.Entries.{keys_rise}
use Rattle.key_name.specs.Owner.{owner_of}
use Rattle.key_name.proofs.OwnerLemmas.{owner_of-last}
use Rattle.model_maps.specs.KeyMap.{KeyMap}
use Rattle.model_names.specs.Below.{is_at_or_below}
use Rattle.model_names.specs.Name.{Name, Part}
use Rattle.model_names.specs.NameOf.{name_behind, name_of}
use Rattle.model_names.specs.Namespaces.{has_files}
use Rattle.model_names.specs.Order.{name_cmp}
use Rattle.model_names.specs.Refuses.{At, Refused, refusal_of, start_of_text}
use Rattle.model_names.specs.Spelling.{spelling}
use Rattle.model_names.specs.declared.namespaces.Namespace.{Namespace}
use Rattle.model_names.specs.declared.namespaces.Namespace.TheVariants.{Cascading, Spec, Proc, Dir, User, System, Default}
use Rattle.model_names.proofs.OrderLemmas.{name_cmp-IsAntisymmetric}
use Rattle.model_names.proofs.PartLemmas.{text_from_test}
use Rattle.model_names.proofs.SpellsLemmas.{is_ascii_text_byte}
use Rattle.mount_table.specs.Entries.{Entries, entries_of}
use Rattle.mount_table.specs.Table.{root_mount, root_mounts, own_mount, remains, remaining, by_point, in_order, table_of}
use Rattle.mount_table.specs.declared.mounts.Mount.{Mount}
use Rattle.mount_table.proofs.TableLemmas.{IsMade, all_good, all_keyed, all_there, all_turned, entry-brings, points-keyed, table-is, there-snoc}

-- ---- a mount at a point

-- what holds of those that pass a test holds of each that does
all_passing : {A : Type 0} (P : A → Type 0) (test : A → Bool) (xs : List A) → AllByRecursion P (filter test xs)
    → AllByRecursion (λ x. test x ≡ true → P x) xs
all_passing P test [] h = tt
all_passing P test (x ∷ xs) h = by (all_passing P test xs) (test x) refl h
  where
    by : (AllByRecursion P (filter test xs) → AllByRecursion (λ y. test y ≡ true → P y) xs) → (b : Bool) → test x ≡ b
        → AllByRecursion P (cond b (x ∷ filter test xs) (filter test xs))
        → AllByRecursion (λ y. test y ≡ true → P y) (x ∷ xs)
    by rest true is all = ((λ _. all.0), rest all.1)
    by rest false is all = ((λ passes. absurd (true≢false (sym passes ∙ is))), rest all)

-- a default mount that remains is there
default_there : (entries : Entries)
    → AllByRecursion (λ mount. remains entries mount ≡ true → map.contains_key (by_point (remaining entries)) mount.at ≡ true) root_mounts
default_there entries =
    let first = filter (remains entries) root_mounts in
    all_passing (λ mount. map.contains_key (by_point (remaining entries)) mount.at ≡ true) (remains entries) root_mounts
    (all_turned (λ mount. map.contains_key (by_point first) mount.at ≡ true) (λ mount. map.contains_key (by_point (remaining entries)) mount.at ≡ true) (λ mount there. there-snoc mount.at first own_mount (inr there)) first (all_there first map.empty))

-- it, or that of the entry which replaces it
has_default : (entries : Entries) (all : List Mount) (mount : Mount)
    → (remains entries mount ≡ true → map.contains_key (by_point (remaining entries)) mount.at ≡ true)
    → name_of (spelling mount.at) ≡ Some mount.at → IsMade entries all → map.contains_key (by_point all) mount.at ≡ true
has_default entries all mount there named is =
    entry-brings (λ mounts. map.contains_key (by_point mounts) mount.at ≡ true) (spelling mount.at) (λ mounts more h. there-snoc mount.at mounts more (inr h))
    (λ mounts more next. there-snoc mount.at mounts more (inl (some_is more.at mount.at (sym next.named ∙ named)))) entries all is
    (elim (cases_Bool (map.contains_key entries (spelling mount.at))) [ inl replaced ↦ inr replaced | inr stays ↦ inl (there (not_from_false _ stays)) ])

-- the root of a namespace is the name that its text spells
root_named : (text : Part) → list_all is_ascii_text_byte text ≡ true → is_none (refusal_of text) ≡ true
    → name_of text ≡ elim (start_of_text text) [ At place ↦ name_behind text place | Refused refusal ↦ None ]
root_named text plain refused =
    cond-true (is_utf8 text && is_none (refusal_of text)) _ _ (and_from _ _ (is_utf8-from_IsUtf8 text (text_from_test text plain).utf8) refused)

-- the default mount of a namespace whose keys are in files
has_root : (entries : Entries) (all : List Mount) (namespace : Namespace) → IsMade entries all
    → has_files namespace ≡ true → map.contains_key (by_point all) (record { namespace = namespace; parts = [] }) ≡ true
has_root entries all Cascading is files = absurd cc
has_root entries all Spec is files =
    has_default entries all (root_mount Spec (codes "spec.ecf")) (default_there entries).0 (root_named _ refl refl) is
has_root entries all Proc is files = absurd cc
has_root entries all Dir is files =
    has_default entries all (root_mount Dir (codes "dir.ecf")) (default_there entries).1.0 (root_named _ refl refl) is
has_root entries all User is files =
    has_default entries all (root_mount User (codes "user.ecf")) (default_there entries).1.1.0 (root_named _ refl refl) is
has_root entries all System is files =
    has_default entries all (root_mount System (codes "system.ecf")) (default_there entries).1.1.1.0 (root_named _ refl refl) is
has_root entries all Default is files = absurd cc

-- ---- the owner

-- the last place that passes a test, or none does
abbrev IsLast : {A : Type 0} → (A → Bool) → List A → ℕ → Type 0
IsLast p xs i =
    (i < length xs) × (((d : _) → p (get_or xs i d) ≡ true) × ((k : ℕ) (d : _) → i + 1 ≤ k → k < length xs → p (get_or xs k d) ≡ false))

none_at : {A : Type 0} (p : A → Bool) (xs : List A) → AllByRecursion (λ x. p x ≡ false) xs → (k : ℕ) (d : A)
    → k < length xs → p (get_or xs k d) ≡ false
none_at p [] none k d lt = absurd (omega (arith, lt))
none_at p (x ∷ xs) none zero d lt = none.0
none_at p (x ∷ xs) none (suc k) d lt = none_at p xs none.1 k d (omega (arith, lt))

last_place : {A : Type 0} (p : A → Bool) (xs : List A)
    → AllByRecursion (λ x. p x ≡ false) xs ⊎ ((i : ℕ) × IsLast p xs i)
last_place p [] = inl tt
last_place p (x ∷ xs) = by (last_place p xs) (cases_Bool (p x))
  where
    by : AllByRecursion (λ x. p x ≡ false) xs ⊎ ((i : ℕ) × IsLast p xs i) → (p x ≡ true) ⊎ (p x ≡ false)
        → AllByRecursion (λ x. p x ≡ false) (x ∷ xs) ⊎ ((i : ℕ) × IsLast p (x ∷ xs) i)
    by (inr last) here = inr (suc last.0, (omega (arith, last.1.0), (last.1.1.0, later (last.1.1.1))))
      where
        later : ((k : ℕ) (d : _) → last.0 + 1 ≤ k → k < length xs → p (get_or xs k d) ≡ false) → (k : ℕ) (d : _)
            → suc last.0 + 1 ≤ k → k < length (x ∷ xs) → p (get_or (x ∷ xs) k d) ≡ false
        later none zero d le lt = absurd (omega (arith, le))
        later none (suc k) d le lt = none k d (omega (arith, le)) (omega (arith, lt))
    by (inl none) (inl here) = inr (zero, (omega arith, ((λ d. here), behind)))
      where
        behind : (k : ℕ) (d : _) → 1 ≤ k → k < length (x ∷ xs) → p (get_or (x ∷ xs) k d) ≡ false
        behind zero d le lt = absurd (omega (arith, le))
        behind (suc k) d le lt = none_at p xs none k d (omega (arith, lt))
    by (inl none) (inr beside) = inl (beside, none)

-- one of some points is this one
none_above : (points : List Name) (point name : Name) → is_at_or_below point name ≡ true
    → AllByRecursion (λ p. is_at_or_below p name ≡ false) points → list_any (eq_by_cmp name_cmp point) points ≡ true → ⊥
none_above [] point name above none there = absurd cc
none_above (other ∷ points) point name above none there = elim (cases_Bool (eq_by_cmp name_cmp point other)) [
  | inl same ↦ true≢false (sym above ∙ ap (λ p. is_at_or_below p name) (name_cmp-IsAntisymmetric point other ((Equal-is (name_cmp point other)).0 same)) ∙ none.0)
  | inr apart ↦ none_above points point name above none.1 (sym (ap (λ b. b || list_any (eq_by_cmp name_cmp point) points) apart) ∙ there)
]

-- the last of the points at or above a name is its owner
owner_there : (points : List Name) (name point : Name) → IsStrictlySortedBy name_cmp points
    → is_at_or_below point name ≡ true → list_any (eq_by_cmp name_cmp point) points ≡ true
    → (m : ℕ) × (m < length points) × (owner_of points name ≡ Some m)
owner_there points name point rise above there = by (last_place (λ p. is_at_or_below p name) points)
  where
    by : AllByRecursion (λ p. is_at_or_below p name ≡ false) points
        ⊎ ((i : ℕ) × IsLast (λ p. is_at_or_below p name) points i)
        → (m : ℕ) × (m < length points) × (owner_of points name ≡ Some m)
    by (inl none) = absurd (none_above points point name above none there)
    by (inr last) =
        let here = get_or points last.0 point in
        (last.0, last.1.0, sym (owner_of-last points name rise last.0 here last.1.0 (get_or_default points last.0 point here last.1.0) (last.1.1.0 point) last.1.1.1))

-- ---- the table

at_root : (name : Name) → is_at_or_below (record { namespace = name.namespace; parts = [] }) name ≡ true
at_root name = and_from _ _ (eq-eqb _ _ refl) refl

pub has_owner : (keys : KeyMap) (mounts : List Mount) (name : Name) → table_of keys ≡ Ok mounts
    → has_files name.namespace ≡ true
    → (m : ℕ) × (m < length mounts) × (owner_of (over (λ mount. mount.at) mounts) name ≡ Some m)
has_owner keys mounts name ok files =
    let entries = entries_of keys in
    let read = table-is keys mounts ok in
    let table = by_point read.all in
    let root : Name = record { namespace = name.namespace; parts = [] } in
    let points : over (λ mount. mount.at) (in_order read.all) ≡ map.keys table = points-keyed (map.entries table) (all_keyed read.all (all_good entries read.all read.made)) in
    let there : list_any (eq_by_cmp name_cmp root) (map.keys table) ≡ true = sym (map.contains_key-keys table root) ∙ has_root entries read.all name.namespace read.made files in
    let found = owner_there (map.keys table) name root (keys_rise name_cmp (map.entries table) (map.entries_sorted table)) (at_root name) there in
    subst (λ (ms : List Mount). (m : ℕ) × (m < length ms) × (owner_of (over (λ mount. mount.at) ms) name ≡ Some m)) read.ordered
    (found.0, subst (λ n. found.0 < n) (length-map (map.entries table) (λ e. e.0) ∙ sym (length-map (map.entries table) (λ e. e.1))) found.1, ap (λ ps. owner_of ps name) points ∙ found.2)
