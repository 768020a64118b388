-- A table is refused for its entries or for their number alone.
use Rattle.std.proofs.Common.{◌≡◌, ℕ, Bool, true, false, cond, ltb, List, [], ◌∷◌, ◌++◌, length, Option, Some, None, Result, Ok, Err, ok_or, refl, subst}
use Rattle.std.specs.FinMap as map
use Rattle.model_names.specs.Name.{Part}
use Rattle.model_maps.specs.KeyMap.{KeyMap}
use Rattle.mount_table.specs.Answers.{IsOfTable}
use Rattle.mount_table.specs.Counting.{counting_said}
use Rattle.mount_table.specs.Entries.{entries_of}
use Rattle.mount_table.specs.Points.{point_of, file_of}
use Rattle.mount_table.specs.Reading.{◌>>=◌, counted, kind_said, mount_at, mount_of, next_mount, is_taken, mounts_from}
use Rattle.mount_table.specs.Table.{remaining, in_order, most_mounts, limited, table_of}
use Rattle.mount_table.specs.declared.entries.MountEntry.{MountEntry}
use Rattle.mount_table.specs.declared.faults.TableFault.{TableFault}
use Rattle.mount_table.specs.declared.faults.TableFault.TheVariants.{BadMountpoint, NoPath, BadPath, UnknownPlugin, FileTwice, BadConflicts, TooMany}
use Rattle.mount_table.specs.declared.mounts.Mount.{Mount}

-- its fault, if there is one, is a table's
abbrev OfTable : {A : Type 0} → Result A TableFault → Type 0
OfTable r = (fault : TableFault) → r ≡ Err fault → IsOfTable fault

err_is : {A : Type 0} (a b : TableFault) → ◌≡◌ {A = Result A TableFault} (Err a) (Err b) → a ≡ b
err_is a b e = cc

ok_no_err : {A : Type 0} (x : A) (fault : TableFault) → ◌≡◌ {A = Result A TableFault} (Ok x) (Err fault) → ⊥
ok_no_err x fault e = cc

of_ok : {A : Type 0} (x : A) → OfTable {A = A} (Ok x)
of_ok {A} x fault e = absurd (ok_no_err {A = A} x fault e)

of_err : {A : Type 0} (own : TableFault) → IsOfTable own → OfTable {A = A} (Err own)
of_err {A} own is fault e = subst IsOfTable (err_is {A = A} own fault e) is

of_then : {A B : Type 0} (r : Result A TableFault) (f : A → Result B TableFault) → OfTable r → ((x : A) → OfTable (f x))
    → OfTable (r >>= f)
of_then (Ok x) f before after fault e = after x fault e
of_then {A} {B} (Err own) f before after fault e = subst IsOfTable (err_is {A = B} own fault e) (before own refl)

of_ok_or : {A : Type 0} (o : Option A) (own : TableFault) → IsOfTable own → OfTable (ok_or o own)
of_ok_or None own is = of_err own is
of_ok_or (Some x) own is = of_ok x

of_mount : (text : Part) (said : MountEntry) → OfTable (mount_of text said)
of_mount text said =
    of_then (ok_or (point_of text) (BadMountpoint text)) (mount_at text said) (of_ok_or (point_of text) (BadMountpoint text) tt) (λ point.
    of_then (ok_or said.path (NoPath text)) _ (of_ok_or said.path (NoPath text) tt) (λ path.
    of_then (ok_or (file_of path) (BadPath text)) _ (of_ok_or (file_of path) (BadPath text) tt) (λ file.
    of_then (ok_or (kind_said said.plugin) (UnknownPlugin text)) _ (of_ok_or (kind_said said.plugin) (UnknownPlugin text) tt) (λ kind. of_ok _))))

of_counted : (text : Part) (said : MountEntry) (mount : Mount) → OfTable (counted text said mount)
of_counted text said mount =
    of_then (ok_or (counting_said mount.kind said.conflicts) (BadConflicts text)) _ (of_ok_or (counting_said mount.kind said.conflicts) (BadConflicts text) tt) (λ by_key. of_ok _)

of_next : (taken : List ℕ → Bool) (text : Part) (said : MountEntry) → OfTable (next_mount taken text said)
of_next taken text said = of_then (mount_of text said) _ (of_mount text said) (λ mount. by (taken mount.file) mount)
  where
    by : (b : Bool) (mount : Mount) → OfTable (cond b (Err (FileTwice text)) (counted text said mount))
    by true mount = of_err (FileTwice text) tt
    by false mount = of_counted text said mount

of_mounts : (mounts : List Mount) (entries : List (Part × MountEntry)) → OfTable (mounts_from mounts entries)
of_mounts mounts [] = of_ok mounts
of_mounts mounts (entry ∷ entries) =
    of_then (next_mount (is_taken mounts) entry.0 entry.1) _ (of_next (is_taken mounts) entry.0 entry.1) (λ mount. of_mounts (mounts ++ mount ∷ []) entries)

of_limited : (mounts : List Mount) → OfTable (limited mounts)
of_limited mounts = by (ltb most_mounts (length mounts))
  where
    by : (b : Bool) → OfTable {A = List Mount} (cond b (Err (TooMany (length mounts))) (Ok mounts))
    by true = of_err (TooMany (length mounts)) tt
    by false = of_ok mounts

pub of_table : (keys : KeyMap) → OfTable (table_of keys)
of_table keys =
    of_then (mounts_from (remaining (entries_of keys)) (map.entries (entries_of keys))) _ (of_mounts (remaining (entries_of keys)) (map.entries (entries_of keys))) (λ mounts. of_limited (in_order mounts))
