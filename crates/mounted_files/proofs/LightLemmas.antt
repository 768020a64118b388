-- Keys that are got have short texts and weigh little enough for a file, and so has what is at or below a name.
use Rattle.std.proofs.Common.{◌≡◌, ◌⊎◌, ℕ, zero, suc, ◌+◌, ◌≤◌, Bool, true, false, cond, List, [], ◌∷◌, length, length-append, take, drop, map as over, filter_map, slice_get, Some, None, refl, sym, ap, subst, ◌∙◌, arith, inl, inr}
use Rattle.std.specs.FinMap as map
use Rattle.std.specs.FinMap.Entries.{by_order, put, where_key}
use Rattle.std.specs.List.{cons_option, flat_map, fold, insert, remove, sum_by}
use Rattle.std.specs.List.Sorted.{IsStrictlySortedBy}
use Rattle.std.specs.Option.{option_map}
use Rattle.std.specs.declared.cmp.Ordering.{Ordering}
use Rattle.std.specs.declared.cmp.Ordering.TheVariants.{Less, Equal, Greater}
use Rattle.std.proofs.lemmas.List.Sums.{sum_by-append, sum_by-cons, sum_by-take-drop}
use Rattle.std.proofs.lemmas.Option.{slice_get-map}
use Rattle.key_set.specs.WithAll.{with_all, with_keys}
use Rattle.model_names.specs.declared.namespaces.Namespace.TheVariants.{Cascading}
use Rattle.model_names.specs.Name.{Name, Part}
use Rattle.model_names.specs.Order.{name_cmp}
use Rattle.model_names.specs.Below.{is_at_or_below}
use Rattle.model_names.specs.Spelling.{path_of_parts, spelled, spelling, word_of}
use Rattle.model_names.proofs.OrderLemmas.{name_cmp_total, name_cmp-IsAntisymmetric, name_decides}
use Rattle.model_maps.specs.Entry.{Entry}
use Rattle.model_maps.specs.KeyMap.{KeyMap, heaviest_map, no_keys, weight, weight_of_key}
use Rattle.mount_table.specs.Points.{own_point}
use Rattle.mount_table.specs.Table.{own_mount}
use Rattle.mount_table.specs.declared.mounts.Mount.{Mount}
use Rattle.general_words.proofs.Maps.{entries-empty, entries-retain}
use Rattle.model_maps.specs.Limits.{IsLimited}
use Rattle.mounted_files.specs.Sound.{AreSound}
use Rattle.mounted_files.specs.Visible.{visible_keys, visible_of}
use Rattle.mounted_files.specs.Short.{AreShort, HasShortTexts, HaveShortTexts}
use Rattle.mounted_files.specs.Weighed.{added_weight, is_own, visible_weight}
use Rattle.mounted_files.specs.Whole.{as_way, relative}
use Rattle.mounted_files.specs.declared.files.FileState.{FileState}
use Rattle.mounted_files.specs.declared.files.FileState.TheVariants.{Good, Bad}
use Rattle.mounted_files.specs.declared.files.MountedFile.{MountedFile}
use Rattle.mounted_files.proofs.BegunLemmas.{number_of-other, slice_get-remove}
use Rattle.mounted_files.specs.Begun.{number_of}
use Rattle.mounted_files.proofs.ChangeLemmas.{short-relative, short-with_all}
use Rattle.mounted_files.proofs.LimitLemmas.{limited-from}
use Rattle.mounted_files.proofs.MapLemmas.{each-none}
use Rattle.mount_table.proofs.OwnFileLemmas.{one_place}

abbrev weighs : Name × Entry → ℕ
weighs key = weight_of_key key.0 key.1

-- ---- keys that are set, one after the other, add their weights at most

placed : (new e : Name × Entry) (es puts : List (Name × Entry)) (o : Ordering) → (o ≡ Equal → e.0 ≡ new.0)
    → sum_by weighs puts ≤ sum_by weighs es + weighs new
    → sum_by weighs (by_order o (new ∷ e ∷ es) ((e.0, new.1) ∷ es) (e ∷ puts)) ≤ sum_by weighs (e ∷ es) + weighs new
placed new e es puts Less tied more = omega (arith, sum_by-cons weighs new (e ∷ es))
placed new e es puts Equal tied more =
    let same : weighs (e.0, new.1) ≡ weighs new = ap (λ n. weight_of_key n new.1) (tied refl) in
    omega (arith, sum_by-cons weighs (e.0, new.1) es, sum_by-cons weighs e es, same)
placed new e es puts Greater tied more = omega (arith, sum_by-cons weighs e puts, sum_by-cons weighs e es, more)

put-weight : (name : Name) (entry : Entry) (es : List (Name × Entry))
    → sum_by weighs (put name_cmp name entry es) ≤ sum_by weighs es + weighs (name, entry)
put-weight name entry [] = omega (arith, sum_by-cons weighs (name, entry) [])
put-weight name entry (e ∷ es) =
    placed (name, entry) e es (put name_cmp name entry es) (name_cmp name e.0) (λ tied. sym (name_cmp-IsAntisymmetric name e.0 tied)) (put-weight name entry es)

insert-weight : (keys : KeyMap) (name : Name) (entry : Entry)
    → weight (map.insert keys name entry) ≤ weight keys + weighs (name, entry)
insert-weight keys name entry =
    subst (λ (es : List (Name × Entry)). sum_by weighs es ≤ weight keys + weighs (name, entry)) (sym (map.entries-insert name_cmp_total keys name entry)) (put-weight name entry (map.entries keys))

with_keys-weight : (es : List (Name × Entry)) (keys : KeyMap)
    → weight (with_keys es keys) ≤ sum_by weighs es + weight keys
with_keys-weight [] keys = omega arith
with_keys-weight (e ∷ es) keys =
    omega (arith, with_keys-weight es (map.insert keys e.0 e.1), insert-weight keys e.0 e.1, sum_by-cons weighs e es)

no_weight : weight no_keys ≡ 0
no_weight = ap (sum_by weighs) (entries-empty name_cmp Entry)

-- ---- the visible keys of files

abbrev file_weight : MountedFile → ℕ
file_weight file = visible_weight file.state

visible_of-weight : (state : FileState) → weight (visible_of state) ≡ visible_weight state
visible_of-weight (Good visible shadow) = refl
visible_of-weight (Bad cause) = no_weight

fold-weight : (files : List MountedFile) (keys : KeyMap)
    → weight (fold (λ (all : KeyMap) (file : MountedFile). with_all (visible_of file.state) all) keys files) ≤ sum_by file_weight files + weight keys
fold-weight [] keys = omega arith
fold-weight (file ∷ files) keys =
    omega (
      arith,
      fold-weight files (with_all (visible_of file.state) keys),
      with_keys-weight (map.entries (visible_of file.state)) keys,
      visible_of-weight file.state,
      sum_by-cons file_weight file files,
    )

visible_of-short : (state : FileState) → HasShortTexts state → AreShort (visible_of state)
visible_of-short (Good visible shadow) short = short.0
visible_of-short (Bad cause) short = each-none _

fold-short : (files : List MountedFile) (keys : KeyMap) → HaveShortTexts files → AreShort keys
    → AreShort (fold (λ (all : KeyMap) (file : MountedFile). with_all (visible_of file.state) all) keys files)
fold-short [] keys all short = short
fold-short (file ∷ files) keys all short =
    fold-short files (with_all (visible_of file.state) keys) all.1 (short-with_all (visible_of file.state) keys (visible_of-short file.state all.0) short)

-- the visible keys of some files are light and short where the files are
pub visible-light : (files : List MountedFile) → sum_by (λ file. visible_weight file.state) files ≤ heaviest_map
    → weight (visible_keys files) ≤ heaviest_map
visible-light files light = omega (arith, light, fold-weight files no_keys, no_weight)

pub visible-short : (files : List MountedFile) → HaveShortTexts files → AreShort (visible_keys files)
visible-short files short = fold-short files no_keys short (each-none _)

-- keys that pass a test weigh no more than all
passing-weight : (p : Name → Bool) (es : List (Name × Entry))
    → sum_by weighs (where_key name_cmp p es) ≤ sum_by weighs es
passing-weight p [] = omega arith
passing-weight p (e ∷ es) = by (p e.0) (passing-weight p es)
  where
    by : (b : Bool) → sum_by weighs (where_key name_cmp p es) ≤ sum_by weighs es
        → sum_by weighs (cond b (e ∷ where_key name_cmp p es) (where_key name_cmp p es)) ≤ sum_by weighs (e ∷ es)
    by true rest = omega (arith, rest, sum_by-cons weighs e es, sum_by-cons weighs e (where_key name_cmp p es))
    by false rest = omega (arith, rest, sum_by-cons weighs e es)

pub kept-weight : (keys : KeyMap) (p : Name → Bool) → weight (map.retain_keys keys p) ≤ weight keys
kept-weight keys p =
    subst (λ (es : List (Name × Entry)). sum_by weighs es ≤ weight keys) (sym (entries-retain name_cmp_total name_cmp-IsAntisymmetric keys p)) (passing-weight p (map.entries keys))

-- ---- a name that leads to a key is no longer than the key's

abbrev slashed : Part → List ℕ
slashed part = 47 ∷ spelled part

drop-length : (n : ℕ) (parts : List Part) → length (flat_map slashed (drop n parts)) ≤ length (flat_map slashed parts)
drop-length zero parts = omega arith
drop-length (suc n) [] = omega arith
drop-length (suc n) (part ∷ parts) =
    omega (arith, drop-length n parts, length-append (slashed part) (flat_map slashed parts))

path-flat : (parts : List Part)
    → (length (path_of_parts parts) ≡ length (flat_map slashed parts))
    ⊎ ((parts ≡ []) × (length (path_of_parts parts) ≡ 1))
path-flat [] = inr (refl, refl)
path-flat (part ∷ parts) = inl refl

one_slash : (parts : List Part) → 1 ≤ length (path_of_parts parts)
one_slash [] = omega arith
one_slash (part ∷ parts) = omega (arith, length-append (slashed part) (flat_map slashed parts))

flat-path : (parts : List Part) → length (flat_map slashed parts) ≤ length (path_of_parts parts)
flat-path [] = omega arith
flat-path (part ∷ parts) = omega arith

path-drop : (n : ℕ) (parts : List Part) → length (path_of_parts (drop n parts)) ≤ length (path_of_parts parts)
path-drop n parts = by (path-flat (drop n parts))
  where
    by : (length (path_of_parts (drop n parts)) ≡ length (flat_map slashed (drop n parts)))
        ⊎ ((drop n parts ≡ []) × (length (path_of_parts (drop n parts)) ≡ 1))
        → length (path_of_parts (drop n parts)) ≤ length (path_of_parts parts)
    by (inl flat) = omega (arith, flat, drop-length n parts, flat-path parts)
    by (inr none) = omega (arith, none.1, one_slash parts)

way-weight : (point : Name) (key : Name × Entry) (rest : List (Name × Entry))
    → sum_by weighs (cons_option (as_way point key) rest) ≤ weighs key + sum_by weighs rest
way-weight point key rest = by (is_at_or_below point key.0)
  where
    way : Name
    way = record { namespace = Cascading; parts = drop (length point.parts) key.0.parts }

    shorter : length (spelling way) ≤ length (spelling key.0)
    shorter =
        omega (arith, path-drop (length point.parts) key.0.parts, length-append (word_of key.0.namespace) (path_of_parts key.0.parts))

    by : (b : Bool)
        → sum_by weighs (cons_option (option_map {U = Name × Entry} (λ w. (w, key.1)) (cond b (Some way) None)) rest) ≤ weighs key + sum_by weighs rest
    by true = omega (arith, shorter, sum_by-cons weighs (way, key.1) rest)
    by false = omega arith

ways-weight : (point : Name) (es : List (Name × Entry))
    → sum_by weighs (filter_map (as_way point) es) ≤ sum_by weighs es
ways-weight point [] = omega arith
ways-weight point (e ∷ es) =
    omega (arith, ways-weight point es, way-weight point e (filter_map (as_way point) es), sum_by-cons weighs e es)

pub relative-weight : (point : Name) (keys : KeyMap) → weight (relative point keys) ≤ weight keys
relative-weight point keys =
    omega (arith, with_keys-weight (filter_map (as_way point) (map.entries keys)) no_keys, ways-weight point (map.entries keys), no_weight)

-- what is at or below a name, of keys that are short and light, is within the limits of a file
pub limited-below : (name : Name) (keys : KeyMap) → AreShort keys → weight keys ≤ heaviest_map
    → AreSound name (relative name keys) → IsLimited (relative name keys)
limited-below name keys short light sound =
    limited-from name (relative name keys) sound (short-relative name keys short) (omega (arith, relative-weight name keys, light))

-- ---- the files of an opening weigh what it has counted

own_free : (files : List MountedFile)
    → ((i : ℕ) (file : MountedFile) → slice_get files i ≡ Some file → is_own file ≡ false)
    → sum_by added_weight files ≡ sum_by file_weight files
own_free [] none = refl
own_free (file ∷ files) none =
    let here : added_weight file ≡ file_weight file = ap (λ b. cond b 0 (file_weight file)) (none zero file refl) in
    let rest = own_free files (λ i other there. none (suc i) other there) in
    omega (arith, here, rest, sum_by-cons added_weight file files, sum_by-cons file_weight file files)

none_own : (table : List Mount) (place : ℕ) (files : List MountedFile)
    → IsStrictlySortedBy name_cmp (over (λ (mount : Mount). mount.at) table) → slice_get table place ≡ Some own_mount
    → over (λ (file : MountedFile). file.mount) files ≡ remove table place
    → (i : ℕ) (file : MountedFile) → slice_get files i ≡ Some file → is_own file ≡ false
none_own table place files sorted own_there mounts i file there = by (is_own file) refl
  where
    point_at : (n : ℕ) (mount : Mount) → slice_get table n ≡ Some mount
        → slice_get (over (λ (m : Mount). m.at) table) n ≡ Some mount.at
    point_at n mount found = slice_get-map (λ (m : Mount). m.at) table n ∙ ap (option_map (λ (m : Mount). m.at)) found

    mount_there : slice_get table (number_of place i) ≡ Some file.mount
    mount_there =
        sym (slice_get-remove table place i)
        ∙ (ap (λ ms. slice_get ms i) (sym mounts) ∙ (slice_get-map (λ (f : MountedFile). f.mount) files i ∙ ap (option_map (λ (f : MountedFile). f.mount)) there))

    by : (test : Bool) → is_own file ≡ test → is_own file ≡ false
    by false is = is
    by true is =
        let point = (name_decides file.mount.at own_point).0 is in
        let at = point_at (number_of place i) file.mount mount_there ∙ ap Some point in
        absurd (number_of-other place i (one_place (over (λ (m : Mount). m.at) table) own_point (number_of place i) place sorted at (point_at place own_mount own_there)))

insert-sum : (files : List MountedFile) (place : ℕ) (file : MountedFile)
    → sum_by file_weight (insert files place file) ≡ file_weight file + sum_by file_weight files
insert-sum files place file =
    omega (arith, sum_by-append file_weight (take place files) (file ∷ drop place files), sum_by-cons file_weight file (drop place files), sum_by-take-drop file_weight files place)

pub all-light : (table : List Mount) (place sum : ℕ) (own : FileState) (files : List MountedFile)
    → IsStrictlySortedBy name_cmp (over (λ (mount : Mount). mount.at) table) → slice_get table place ≡ Some own_mount
    → over (λ (file : MountedFile). file.mount) files ≡ remove table place
    → sum ≡ visible_weight own + sum_by added_weight files → sum ≤ heaviest_map
    → sum_by (λ file. visible_weight file.state) (insert files place (record { mount = own_mount; state = own })) ≤ heaviest_map
all-light table place sum own files sorted own_there mounts sum_is limit =
    omega (arith, insert-sum files place (record { mount = own_mount; state = own }), own_free files (none_own table place files sorted own_there mounts), sum_is, limit)
