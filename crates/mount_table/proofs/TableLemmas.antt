-- What a table that was read is: mounts in the order of their mountpoints, each in a namespace whose keys are in files.
-- What holds of the default mounts, and is kept by each mount that an entry adds, holds of the mounts of a table.
use Rattle.std.proofs.Common.{◌≡◌, ℕ, ◌+◌, ◌<◌, ◌≤◌, Bool, true, false, true≢false, cond, not, ◌&&◌, ◌||◌, nat_eq, nat_le, ltb, T, List, [], ◌∷◌, ◌++◌, length, take, get_or, map as over, filter, fold, Option, Some, None, is_some, ok_or, Result, Ok, Err, codes, refl, sym, ap, subst, ◌∙◌, inl, inr, ◌⊎◌, arith, length-append, Bor}
use Rattle.std.specs.Cmp.{Equal-is, tied_itself}
use Rattle.std.specs.FinMap as map
use Rattle.std.specs.FinMap.{FinMap, is_sorted}
use Rattle.std.specs.List.{AllByRecursion, list_all, list_any, starts_with}
use Rattle.std.specs.Option.{option_copied}
use Rattle.std.specs.Ordering.{eq_by_cmp}
use Rattle.std.proofs.lemmas.Bool.{cases_Bool, leb-true, and_from, and_parts, not-true, cond-true, cond-false, lt-ltb, le-ltb, ltb-false}
use Rattle.std.proofs.lemmas.List.{length-map}
use Rattle.std.proofs.lemmas.List.Sums.{fold-append, fold_more}
use Rattle.general_words.proofs.Maps.{each-insert, get-at}
use Rattle.general_words.specs.Texts.{is_text, text_cmp}
use Rattle.general_words.proofs.Lists.{some_is, all_append, all_from_places}
use Rattle.general_words.proofs.Tests.{cond_some}
use Rattle.general_words.proofs.Texts.{text_cmp-IsAntisymmetric}
use Rattle.general_words.proofs.Entries.{keys_rise}
use Rattle.kdb_outside.specs.FileName.{is_file_name}
use Rattle.kdb_outside.specs.declared.kinds.Kind.{Kind}
use Rattle.model_maps.specs.KeyMap.{KeyMap}
use Rattle.model_names.specs.Below.{is_at_or_below}
use Rattle.model_names.specs.Name.{Name, Part}
use Rattle.model_names.specs.NameOf.{name_of}
use Rattle.model_names.specs.Namespaces.{has_files}
use Rattle.model_names.specs.Order.{name_cmp}
use Rattle.model_names.specs.Spelling.{spelling}
use Rattle.std.proofs.lemmas.Slice.Eq.{bytes_eq-Decides}
use Rattle.model_names.proofs.OrderLemmas.{name_cmp_total, name_cmp-IsAntisymmetric}
use Rattle.model_names.proofs.RefusesLemmas.{from_and_then}
use Rattle.mount_table.specs.Counting.{keys_word, backend_word, may_count, counting_said}
use Rattle.mount_table.specs.Entries.{Entries, entries_of}
use Rattle.mount_table.specs.Points.{is_point, point_of, file_of, longest_point, own_point}
use Rattle.mount_table.specs.Reading.{◌>>=◌, counted, kind_said, mount_at, mount_of, next_mount, is_taken, mounts_from}
use Rattle.mount_table.specs.Table.{root_mounts, own_mount, remains, remaining, by_point, in_order, most_mounts, limited, table_from, table_of, ArePoints}
use Rattle.mount_table.specs.declared.entries.MountEntry.{MountEntry}
use Rattle.mount_table.specs.declared.faults.TableFault.{TableFault}
use Rattle.mount_table.specs.declared.faults.TableFault.TheVariants.{BadMountpoint, NoPath, BadPath, UnknownPlugin, FileTwice, BadConflicts, TooMany}
use Rattle.mount_table.specs.declared.mounts.Mount.{Mount}

pub is_some-copied : {X : Type 0} (o : Option (Bor X)) → is_some (option_copied o) ≡ is_some o
is_some-copied None = refl
is_some-copied (Some x) = refl

pub by_point-more : (mounts : List Mount) (i : ℕ) (mount : Mount) → i < length mounts → mount ≡ get_or mounts i mount
    → by_point (take (i + 1) mounts) ≡ map.insert (by_point (take i mounts)) mount.at mount
by_point-more mounts i mount lt is =
    fold_more _ map.empty mounts i mount lt ∙ ap (λ m. map.insert (by_point (take i mounts)) m.at m) (sym is)

-- ---- what is good came from what is good

pub from_then : {A B : Type 0} (r : Result A TableFault) (f : A → Result B TableFault) (y : B) → (r >>= f) ≡ Ok y
    → (x : A) × (r ≡ Ok x) × (f x ≡ Ok y)
from_then (Ok x) f y h = (x, refl, h)
from_then (Err fault) f y h = absurd cc

from_ok_or : {A : Type 0} (o : Option A) (fault : TableFault) (x : A) → ok_or o fault ≡ Ok x → o ≡ Some x
from_ok_or None fault x h = absurd cc
from_ok_or (Some y) fault x h = some_of y x h
  where
    some_of : {A : Type 0} (y x : A) → ◌≡◌ {A = Result A TableFault} (Ok y) (Ok x)
        → ◌≡◌ {A = Option A} (Some y) (Some x)
    some_of y x e = cc

pub ok_is : {A : Type 0} (x y : A) → ◌≡◌ {A = Result A TableFault} (Ok x) (Ok y) → x ≡ y
ok_is x y e = cc

-- ---- the mount of an entry

-- its mountpoint is the entry's text, and some path names its file
mount_parts : (text : Part) (said : MountEntry) (mount : Mount) → mount_of text said ≡ Ok mount
    → (point_of text ≡ Some mount.at) × ((path : List ℕ) × (file_of path ≡ Some mount.file))
mount_parts text said mount h =
    let point = from_then (ok_or (point_of text) (BadMountpoint text)) (mount_at text said) mount h in
    let path = from_then (ok_or said.path (NoPath text)) _ mount point.2 in
    let file = from_then (ok_or (file_of path.0) (BadPath text)) _ mount path.2 in
    let kind = from_then (ok_or (kind_said said.plugin) (UnknownPlugin text)) _ mount file.2 in
    let is : (record { at = point.0; file = file.0; kind = kind.0; by_key = false }) ≡ mount = ok_is (record { at = point.0; file = file.0; kind = kind.0; by_key = false }) mount kind.2 in (
      from_ok_or (point_of text) (BadMountpoint text) point.0 point.1 ∙ ap (λ (m : Mount). Some m.at) is,
      (path.0, from_ok_or (file_of path.0) (BadPath text) file.0 file.1 ∙ ap (λ (m : Mount). Some m.file) is),
    )

-- a mount that is counted as its entry says is the same beside, and counts by key only where its format allows it
record IsCounted (before mount : Mount) : Type 0 where
  at : before.at ≡ mount.at
  file : before.file ≡ mount.file
  may : mount.by_key ≡ true → may_count mount.kind ≡ true

said_may : (kind : Kind) (conflicts : Option (List ℕ)) (by_key : Bool) → counting_said kind conflicts ≡ Some by_key
    → by_key ≡ true → may_count kind ≡ true
said_may kind None by_key said is = absurd (true≢false (sym (some_is false by_key said ∙ is)))
said_may kind (Some word) by_key said is =
    by (is_text word keys_word) (may_count kind) (is_text word backend_word) (said ∙ ap (λ b. Some b) is)
  where
    by : (a b c : Bool) → cond a (cond b (Some true) None) (cond c (Some false) None) ≡ Some true → b ≡ true
    by true true c e = refl
    by true false c e = absurd cc
    by false b true e = absurd cc
    by false b false e = absurd cc

counted_is : (text : Part) (said : MountEntry) (before mount : Mount) → counted text said before ≡ Ok mount
    → IsCounted before mount
counted_is text said before mount h =
    let by_key = from_then (ok_or (counting_said before.kind said.conflicts) (BadConflicts text)) _ mount h in
    let is : (record before { by_key = by_key.0 }) ≡ mount = ok_is (record before { by_key = by_key.0 }) mount by_key.2 in
    record {
      at = ap (λ (m : Mount). m.at) is;
      file = ap (λ (m : Mount). m.file) is;
      may = subst (λ (m : Mount). m.by_key ≡ true → may_count m.kind ≡ true) is (said_may before.kind said.conflicts by_key.0 (from_ok_or (counting_said before.kind said.conflicts) (BadConflicts text) by_key.0 by_key.1));
    }

-- its file isn't taken, and it is counted as its entry says
record IsBehind (taken : List ℕ → Bool) (text : Part) (said : MountEntry) (mount : Mount) : Type 0 where
  before : Mount
  of : mount_of text said ≡ Ok before
  free : taken before.file ≡ false
  counted : IsCounted before mount

next_parts : (taken : List ℕ → Bool) (text : Part) (said : MountEntry) (mount : Mount)
    → next_mount taken text said ≡ Ok mount → IsBehind taken text said mount
next_parts taken text said mount h =
    let one = from_then (mount_of text said) _ mount h in
    let tested = by (taken one.0.file) (counted text said one.0) one.2 in
    record { before = one.0; of = one.1; free = tested.0; counted = counted_is text said one.0 mount tested.1 }
  where
    by : (b : Bool) (r : Result Mount TableFault) → cond b (Err (FileTwice text)) r ≡ Ok mount
        → (b ≡ false) × (r ≡ Ok mount)
    by true r e = absurd cc
    by false r e = (refl, e)

pub point_of-next : (taken : List ℕ → Bool) (text : Part) (said : MountEntry) (mount : Mount)
    → next_mount taken text said ≡ Ok mount → point_of text ≡ Some mount.at
point_of-next taken text said mount h =
    let next = next_parts taken text said mount h in
    (mount_parts text said next.before next.of).0 ∙ ap (λ at. Some at) next.counted.at

-- what a mountpoint is
pub record IsPoint (text : List ℕ) (name : Name) : Type 0 where
  pub named : name_of text ≡ Some name
  pub is : is_point text name ≡ true

pub IsPoint-from : (text : List ℕ) (name : Name) → point_of text ≡ Some name → IsPoint text name
IsPoint-from text name h =
    let found = from_and_then (λ name. cond (is_point text name) (Some name) None) (name_of text) name h in
    let test = cond_some (is_point text found.0) (Some found.0) name found.2 in
    let same : found.0 ≡ name = some_is found.0 name test.1 in
    record { named = found.1 ∙ ap (λ n. Some n) same; is = ap (is_point text) (sym same) ∙ test.0 }

-- what each mount is: in a namespace whose keys are in files, and on a file whose name is one and isn't the journal's.
-- It counts by key only where its format allows it, and never where the table's own keys are
pub record IsGood (mount : Mount) : Type 0 where
  pub files : has_files mount.at.namespace ≡ true
  pub named : is_file_name mount.file ≡ true
  pub free : starts_with nat_eq mount.file (codes "journal") ≡ false
  pub may : mount.by_key ≡ true → may_count mount.kind ≡ true
  pub own : mount.at ≡ own_point → mount.by_key ≡ false

-- what the mount of an entry is, behind others
pub record IsNext (mounts : List Mount) (text : Part) (mount : Mount) : Type 0 where
  pub named : name_of text ≡ Some mount.at
  pub spelled : spelling mount.at ≡ text
  pub short : length text ≤ longest_point
  pub outside : is_at_or_below own_point mount.at ≡ false
  pub good : IsGood mount
  pub new_file : is_taken mounts mount.file ≡ false

next_is : (mounts : List Mount) (text : Part) (said : MountEntry) (mount : Mount)
    → next_mount (is_taken mounts) text said ≡ Ok mount → IsNext mounts text mount
next_is mounts text said mount h =
    let next = next_parts (is_taken mounts) text said mount h in
    let parts = mount_parts text said next.before next.of in
    let point = IsPoint-from text mount.at (point_of-next (is_taken mounts) text said mount h) in
    let tests = and_parts (has_files mount.at.namespace) _ point.is in
    let short = and_parts (nat_le (length text) longest_point) _ tests.1 in
    let spelled = and_parts (is_text (spelling mount.at) text) _ short.1 in
    let path = parts.1.0 in
    let file = cond_some (is_file_name path && not (starts_with nat_eq path (codes "journal"))) (Some path) next.before.file parts.1.1 in
    let is : path ≡ mount.file = some_is path next.before.file file.1 ∙ next.counted.file in
    let own = and_parts (is_file_name path) _ file.0 in
    let outside : is_at_or_below own_point mount.at ≡ false = not-true _ spelled.1 in
    record {
      named = point.named;
      spelled = (bytes_eq-Decides (spelling mount.at) text).0 spelled.0;
      short = leb-true _ _ short.0;
      outside = outside;
      good = record {
        files = tests.0;
        named = ap is_file_name (sym is) ∙ own.0;
        free = ap (λ f. starts_with nat_eq f (codes "journal")) (sym is) ∙ not-true _ own.1;
        may = next.counted.may;
        own = λ e. absurd (true≢false (ap (is_at_or_below own_point) (sym e) ∙ outside));
      };
      new_file = ap (is_taken mounts) (sym next.counted.file) ∙ next.free;
    }

-- ---- from the default mounts that remain to those of a table

-- what the mounts so far and the entries that are left have, and each mount of an entry keeps, the mounts of all have
module _ (P : List (Part × MountEntry) → List Mount → Type 0) (push : (entry : Part × MountEntry) (entries : List (Part × MountEntry)) (mounts : List Mount) (mount : Mount) → IsNext mounts entry.0 mount → P (entry ∷ entries) mounts → P entries (mounts ++ mount ∷ [])) where
  pub mounts_from-keeps : (mounts : List Mount) (entries : List (Part × MountEntry)) (all : List Mount)
      → mounts_from mounts entries ≡ Ok all → P entries mounts → P [] all
  mounts_from-keeps mounts [] all is h = subst (P []) (ok_is mounts all is) h
  mounts_from-keeps mounts (entry ∷ entries) all is h =
      let next = from_then (next_mount (is_taken mounts) entry.0 entry.1) (λ mount. mounts_from (mounts ++ mount ∷ []) entries) all is in
      mounts_from-keeps (mounts ++ next.0 ∷ []) entries all next.2 (push entry entries mounts next.0 (next_is mounts entry.0 entry.1 next.0 next.1) h)

pub all_filter : {X : Type 0} (P : X → Type 0) (test : X → Bool) (xs : List X) → AllByRecursion P xs
    → AllByRecursion P (filter test xs)
all_filter P test [] h = tt
all_filter P test (x ∷ xs) h =
    elim (test x) as (λ b. AllByRecursion P (cond b (x ∷ filter test xs) (filter test xs))) [ true ↦ (h.0, all_filter P test xs h.1) | false ↦ all_filter P test xs h.1 ]

-- what each has, it has in another form
pub all_turned : {X : Type 0} (P Q : X → Type 0) → ((x : X) → P x → Q x) → (xs : List X) → AllByRecursion P xs
    → AllByRecursion Q xs
all_turned P Q turn [] h = tt
all_turned P Q turn (x ∷ xs) h = (turn x h.0, all_turned P Q turn xs h.1)

-- what holds of each default mount holds of those that remain
pub all_remaining : (P : Mount → Type 0) (entries : Entries) → AllByRecursion P root_mounts → P own_mount
    → AllByRecursion P (remaining entries)
all_remaining P entries roots own =
    all_append P (filter (remains entries) root_mounts) (own_mount ∷ []) (all_filter P (remains entries) root_mounts roots) (own, tt)

default_good : (mount : Mount) → has_files mount.at.namespace ≡ true → is_file_name mount.file ≡ true
    → starts_with nat_eq mount.file (codes "journal") ≡ false → mount.by_key ≡ false → IsGood mount
default_good mount files named free backend =
    record {
      files = files;
      named = named;
      free = free;
      may = λ e. absurd (true≢false (sym e ∙ backend));
      own = λ _. backend;
    }

good_push : (entry : Part × MountEntry) (entries : List (Part × MountEntry)) (mounts : List Mount) (mount : Mount)
    → IsNext mounts entry.0 mount → AllByRecursion IsGood mounts → AllByRecursion IsGood (mounts ++ mount ∷ [])
good_push entry entries mounts mount next h = all_append IsGood mounts (mount ∷ []) h (next.good, tt)

-- the mounts that entries make
abbrev pub IsMade : Entries → List Mount → Type 0
IsMade entries all = mounts_from (remaining entries) (map.entries entries) ≡ Ok all

pub all_good : (entries : Entries) (all : List Mount) → IsMade entries all → AllByRecursion IsGood all
all_good entries all is =
    mounts_from-keeps (λ _ mounts. AllByRecursion IsGood mounts) good_push (remaining entries) (map.entries entries) all is
    (all_remaining IsGood entries (default_good _ refl refl refl refl, (default_good _ refl refl refl refl, (default_good _ refl refl refl refl, (default_good _ refl refl refl refl, tt)))) (default_good _ refl refl refl refl))

-- there is one at least
some_made : (entries : Entries) (all : List Mount) → IsMade entries all → 1 ≤ length all
some_made entries all is =
    mounts_from-keeps (λ _ mounts. 1 ≤ length mounts) (λ entry entries mounts mount next some. omega (arith, some, length-append mounts (mount ∷ []))) (remaining entries) (map.entries entries) all is
    (omega (arith, length-append (filter (remains entries) root_mounts) (own_mount ∷ [])))

-- a text is that of one of some entries
abbrev pub is_among : Part → List (Part × MountEntry) → Bool
is_among text entries = list_any (eq_by_cmp text_cmp text) (over (λ e. e.0) entries)

-- what the mount of an entry brings, and each more keeps, the mounts of all have
module _ (Q : List Mount → Type 0) (text : Part) (kept : (mounts : List Mount) (mount : Mount) → Q mounts → Q (mounts ++ mount ∷ [])) (brought : (mounts : List Mount) (mount : Mount) → IsNext mounts text mount → Q (mounts ++ mount ∷ [])) where
  abbrev Comes : List (Part × MountEntry) → List Mount → Type 0
  Comes entries mounts = Q mounts ⊎ (is_among text entries ≡ true)

  comes_push : (entry : Part × MountEntry) (entries : List (Part × MountEntry)) (mounts : List Mount) (mount : Mount)
      → IsNext mounts entry.0 mount → Comes (entry ∷ entries) mounts → Comes entries (mounts ++ mount ∷ [])
  comes_push entry entries mounts mount next (inl there) = inl (kept mounts mount there)
  comes_push entry entries mounts mount next (inr left) = elim (cases_Bool (eq_by_cmp text_cmp text entry.0)) [
    | inl same ↦ inl (brought mounts mount (subst (λ t. IsNext mounts t mount) (sym (text_cmp-IsAntisymmetric text entry.0 ((Equal-is (text_cmp text entry.0)).0 same))) next))
    | inr other ↦ inr (sym (ap (λ b. b || is_among text entries) other) ∙ left)
  ]

  come : (all : List Mount) → Comes [] all → Q all
  come all (inl there) = there
  come all (inr left) = absurd cc

  pub entry-brings : (entries : Entries) (all : List Mount) → IsMade entries all
      → Q (remaining entries) ⊎ (map.contains_key entries text ≡ true) → Q all
  entry-brings entries all is first = come all (mounts_from-keeps Comes comes_push (remaining entries) (map.entries entries) all is (elim first [
    | inl there ↦ inl there
    | inr left ↦ inr (sym (map.contains_key-keys entries text) ∙ left)
  ]))

-- ---- mounts by their mountpoints

pub by_point-snoc : (mounts : List Mount) (mount : Mount)
    → by_point (mounts ++ mount ∷ []) ≡ map.insert (by_point mounts) mount.at mount
by_point-snoc mounts mount =
    fold-append (λ (table : FinMap name_cmp Mount) (m : Mount). map.insert table m.at m) map.empty mounts (mount ∷ [])

-- a table, with some mounts more
abbrev pub with_mounts : FinMap name_cmp Mount → List Mount → FinMap name_cmp Mount
with_mounts table mounts = fold (λ table mount. map.insert table mount.at mount) table mounts

-- what each mount is stands under its own mountpoint
each_more : (P : Mount → Type 0) (mounts : List Mount) (table : FinMap name_cmp Mount) → AllByRecursion P mounts
    → ((point : Name) (mount : Mount) → map.get table point ≡ Some mount → (mount.at ≡ point) × P mount)
    → (point : Name) (mount : Mount) → map.get (with_mounts table mounts) point ≡ Some mount
    → (mount.at ≡ point) × P mount
each_more P [] table all each point mount found = each point mount found
each_more P (one ∷ mounts) table all each point mount found =
    each_more P mounts (map.insert table one.at one) all.1 (λ q x there. each-insert name_cmp_total name_cmp-IsAntisymmetric (λ (q : Name) (x : Mount). (x.at ≡ q) × P x) table one.at one each (refl, all.0) q x there) point mount found

pub by_point-each : (P : Mount → Type 0) (mounts : List Mount) → AllByRecursion P mounts
    → (point : Name) (mount : Mount) → map.get (by_point mounts) point ≡ Some mount → (mount.at ≡ point) × P mount
by_point-each P mounts all point mount found =
    each_more P mounts map.empty all (λ q x there. let none : None ≡ Some x = sym (map.get-empty {X = Mount} name_cmp q) ∙ there in absurd cc) point mount found

-- what was put there is there
is_there : (point : Name) (table : FinMap name_cmp Mount) (mount : Mount)
    → (mount.at ≡ point) ⊎ (map.contains_key table point ≡ true)
    → map.contains_key (map.insert table mount.at mount) point ≡ true
is_there point table mount (inl is) =
    ap is_some (map.get-insert name_cmp_total table mount.at mount point ∙ cond-true (eq_by_cmp name_cmp point mount.at) (Some mount) (map.get table point) ((Equal-is (name_cmp point mount.at)).1 (ap (name_cmp point) is ∙ tied_itself name_cmp_total point)))
is_there point table mount (inr there) =
    ap is_some (map.get-insert name_cmp_total table mount.at mount point) ∙ by (eq_by_cmp name_cmp point mount.at)
  where
    by : (b : Bool) → is_some (cond b (Some mount) (map.get table point)) ≡ true
    by true = refl
    by false = there

pub there-snoc : (point : Name) (mounts : List Mount) (mount : Mount)
    → (mount.at ≡ point) ⊎ (map.contains_key (by_point mounts) point ≡ true)
    → map.contains_key (by_point (mounts ++ mount ∷ [])) point ≡ true
there-snoc point mounts mount h =
    ap (λ table. map.contains_key table point) (by_point-snoc mounts mount) ∙ is_there point (by_point mounts) mount h

still_there : (point : Name) (mounts : List Mount) (table : FinMap name_cmp Mount) → map.contains_key table point ≡ true
    → map.contains_key (with_mounts table mounts) point ≡ true
still_there point [] table there = there
still_there point (mount ∷ mounts) table there =
    still_there point mounts (map.insert table mount.at mount) (is_there point table mount (inr there))

pub all_there : (mounts : List Mount) (table : FinMap name_cmp Mount)
    → AllByRecursion (λ mount. map.contains_key (with_mounts table mounts) mount.at ≡ true) mounts
all_there [] table = tt
all_there (mount ∷ mounts) table =
    (still_there mount.at mounts (map.insert table mount.at mount) (is_there mount.at table mount (inl refl)), all_there mounts (map.insert table mount.at mount))

some_among : {A : Type 0} (p : A → Bool) (xs : List A) → list_any p xs ≡ true → 1 ≤ length xs
some_among p [] there = absurd cc
some_among p (x ∷ xs) there = omega arith

some_by_point : (mounts : List Mount) → 1 ≤ length mounts → 1 ≤ length (map.entries (by_point mounts))
some_by_point [] some = absurd (omega arith)
some_by_point (mount ∷ mounts) some =
    let table = by_point (mount ∷ mounts) in
    let many = some_among (eq_by_cmp name_cmp mount.at) (map.keys table) (sym (map.contains_key-keys table mount.at) ∙ (all_there (mount ∷ mounts) map.empty).0) in
    subst (λ n. 1 ≤ n) (length-map (map.entries table) (λ e. e.0)) many

-- ---- in their order

-- a mount stands under its own mountpoint
abbrev pub IsKeyed : Name × Mount → Type 0
IsKeyed entry = (entry.1.at ≡ entry.0) × IsGood entry.1

pub all_keyed : (mounts : List Mount) → AllByRecursion IsGood mounts
    → AllByRecursion IsKeyed (map.entries (by_point mounts))
all_keyed mounts good =
    all_from_places IsKeyed (map.entries (by_point mounts)) (λ i e there. by_point-each IsGood mounts good e.0 e.1 (get-at name_cmp_total (by_point mounts) i e there))

pub points-keyed : (es : List (Name × Mount)) → AllByRecursion IsKeyed es
    → over (λ m. m.at) (over (λ e. e.1) es) ≡ over (λ e. e.0) es
points-keyed [] h = refl
points-keyed (e ∷ es) h = λ i. h.0.0 i ∷ points-keyed es h.1 i

files-keyed : (es : List (Name × Mount)) → AllByRecursion IsKeyed es
    → list_all (λ (point : Name). has_files point.namespace) (over (λ e. e.0) es) ≡ true
files-keyed [] h = refl
files-keyed (e ∷ es) h =
    and_from _ _ (subst (λ point. has_files point.namespace ≡ true) h.0.0 h.0.1.files) (files-keyed es h.1)

-- ---- the table of some keys

-- its mounts are those that its entries make, in their order, and not too many
pub record IsTableOf (entries : Entries) (mounts : List Mount) : Type 0 where
  pub all : List Mount
  pub made : IsMade entries all
  pub ordered : in_order all ≡ mounts
  pub few : length mounts ≤ most_mounts

pub table-is : (keys : KeyMap) (mounts : List Mount) → table_of keys ≡ Ok mounts → IsTableOf (entries_of keys) mounts
table-is keys mounts ok =
    let read = from_then (mounts_from (remaining (entries_of keys)) (map.entries (entries_of keys))) (λ all. limited (in_order all)) mounts ok in
    let is = by (in_order read.0) (ltb most_mounts (length (in_order read.0))) refl read.2 in
    record { all = read.0; made = read.1; ordered = is.0; few = is.1 }
  where
    by : (all : List Mount) (b : Bool) → ltb most_mounts (length all) ≡ b
        → ◌≡◌ {A = Result (List Mount) TableFault} (cond b (Err (TooMany (length all))) (Ok all)) (Ok mounts)
        → (all ≡ mounts) × (length mounts ≤ most_mounts)
    by all true is e = absurd cc
    by all false is e =
        (ok_is all mounts e, subst (λ (ms : List Mount). length ms ≤ most_mounts) (ok_is all mounts e) (ltb-false most_mounts (length all) is))

-- ---- the table of some entries

module _ (entries : List (Part × MountEntry)) (entries_sorted : T (is_sorted text_cmp entries)) (before : List Mount) (remain : before ≡ remaining (map.from_sorted {R = text_cmp} entries)) where
  reads : mounts_from (remaining (map.from_sorted {R = text_cmp} entries)) (map.entries (map.from_sorted {R = text_cmp} entries))
      ≡ mounts_from before entries
  reads =
      ap (mounts_from (remaining (map.from_sorted entries))) (map.entries-from_sorted text_cmp entries entries_sorted)
      ∙ ap (λ ms. mounts_from ms entries) (sym remain)

  pub table_from-err : (fault : TableFault) → mounts_from before entries ≡ Err fault
      → table_from (map.from_sorted {R = text_cmp} entries) ≡ Err fault
  table_from-err fault h = ap (λ r. r >>= (λ mounts. limited (in_order mounts))) (reads ∙ h)

  module _ (all : List Mount) (ok : mounts_from before entries ≡ Ok all) (table : List (Name × Mount)) (table_sorted : T (is_sorted name_cmp table)) (is : map.from_sorted {R = name_cmp} table ≡ by_point all) where
    table_entries : map.entries (by_point all) ≡ table
    table_entries = ap map.entries (sym is) ∙ map.entries-from_sorted name_cmp table table_sorted

    pub table_from-limited : table_from (map.from_sorted {R = text_cmp} entries) ≡ limited (over (λ e. e.1) table)
    table_from-limited =
        ap (λ r. r >>= (λ mounts. limited (in_order mounts))) (reads ∙ ok)
        ∙ ap (λ es. limited (over (λ e. e.1) es)) table_entries

    pub table_from-long : most_mounts < length table
        → table_from (map.from_sorted {R = text_cmp} entries) ≡ Err (TooMany (length table))
    table_from-long long =
        table_from-limited
        ∙ cond-true (ltb most_mounts (length (over (λ e. e.1) table))) _ _ (lt-ltb _ _ (subst (λ n. most_mounts < n) (sym (length-map table (λ e. e.1))) long))
        ∙ ap (λ n. Err (TooMany n)) (length-map table (λ e. e.1))

    pub table_from-ok : length table ≤ most_mounts
        → table_from (map.from_sorted {R = text_cmp} entries) ≡ Ok (over (λ e. e.1) table)
    table_from-ok short =
        table_from-limited
        ∙ cond-false (ltb most_mounts (length (over (λ e. e.1) table))) _ _ (le-ltb _ _ (subst (λ n. n ≤ most_mounts) (sym (length-map table (λ e. e.1))) short))

    made : IsMade (map.from_sorted {R = text_cmp} entries) all
    made = reads ∙ ok

    keyed : AllByRecursion IsKeyed table
    keyed = subst (AllByRecursion IsKeyed) table_entries (all_keyed all (all_good (map.from_sorted entries) all made))

    pub points-table : over (λ m. m.at) (over (λ e. e.1) table) ≡ over (λ e. e.0) table
    points-table = points-keyed table keyed

    pub ArePoints-table : length table ≤ most_mounts → ArePoints (over (λ e. e.0) table)
    ArePoints-table short =
        let counted : length (over (λ e. e.0) table) ≡ length table = length-map table (λ e. e.0) in
        let some : 1 ≤ length table = subst (λ es. 1 ≤ length es) table_entries (some_by_point all (some_made (map.from_sorted entries) all made)) in
        record {
          points = record { ascending = keys_rise name_cmp table table_sorted; in_files = files-keyed table keyed };
          some = omega (arith, some, counted);
          few = omega (arith, short, counted);
        }
