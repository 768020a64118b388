-- The mount table that some keys make. (After Elektra's page on mounting: the default mounts, and one mount for each
-- entry.)
use Rattle.std.specs.Prelude.{ℕ, ◌≤◌, nat_lt, Bool, false, not, if◌then◌else◌, List, [], ◌∷◌, ◌++◌, length, filter, fold, Result, Ok, Err, codes}
use Rattle.std.specs.FinMap as map
use Rattle.std.specs.FinMap.{FinMap}
use Rattle.kdb_outside.specs.declared.kinds.Kind.TheVariants.{Dump}
use Rattle.key_name.specs.Owner.{IsPoints}
use Rattle.model_names.specs.declared.namespaces.Namespace.{Namespace}
use Rattle.model_names.specs.declared.namespaces.Namespace.TheVariants.{Spec, Dir, User, System}
use Rattle.model_names.specs.Name.{Name}
use Rattle.model_names.specs.Order.{name_cmp}
use Rattle.model_names.specs.Spelling.{spelling}
use Rattle.model_maps.specs.KeyMap.{KeyMap}
use Rattle.mount_table.specs.Entries.{Entries, entries_of}
use Rattle.mount_table.specs.Points.{own_point}
use Rattle.mount_table.specs.Reading.{◌>>=◌, mounts_from}
use Rattle.mount_table.specs.declared.faults.TableFault.{TableFault}
use Rattle.mount_table.specs.declared.faults.TableFault.TheVariants.{TooMany}
use Rattle.mount_table.specs.declared.mounts.Mount.{Mount}

-- the mount of a whole namespace
abbrev pub root_mount : Namespace → List ℕ → Mount
root_mount namespace file =
    record { at = record { namespace = namespace; parts = [] }; file = file; kind = Dump; by_key = false }

-- the default mounts of whole namespaces
abbrev pub root_mounts : List Mount
root_mounts =
    root_mount Spec (codes "spec.ecf") ∷ root_mount Dir (codes "dir.ecf") ∷ root_mount User (codes "user.ecf") ∷ root_mount System (codes "system.ecf") ∷ []

-- the mount of the table's own keys, which always stays
abbrev pub own_mount : Mount
own_mount = record { at = own_point; file = codes "elektra.ecf"; kind = Dump; by_key = false }

-- a default mount remains where no entry has its mountpoint
abbrev pub remains : Entries → Mount → Bool
remains entries mount = not (map.contains_key entries (spelling mount.at))

-- the default mounts that remain
abbrev pub remaining : Entries → List Mount
remaining entries = filter (remains entries) root_mounts ++ own_mount ∷ []

-- mounts by their mountpoints
abbrev pub by_point : List Mount → FinMap name_cmp Mount
by_point mounts = fold (λ table mount. map.insert table mount.at mount) map.empty mounts

-- mounts in the order of their mountpoints
abbrev pub in_order : List Mount → List Mount
in_order mounts = map.values (by_point mounts)

-- the most mounts of a table
abbrev pub most_mounts : ℕ
most_mounts = 64

-- a table isn't too long
abbrev pub limited : List Mount → Result (List Mount) TableFault
limited mounts = if nat_lt most_mounts (length mounts) then Err (TooMany (length mounts)) else Ok mounts

-- the table that some entries make, or what is wrong with them
abbrev pub table_from : Entries → Result (List Mount) TableFault
table_from entries = do
  mounts ← mounts_from (remaining entries) (map.entries entries)
  limited (in_order mounts)

-- the table that some keys make, or what is wrong with their entries
abbrev pub table_of : KeyMap → Result (List Mount) TableFault
table_of keys = table_from (entries_of keys)

-- mountpoints as a table has them: points of mounts, at least one and not too many
pub record ArePoints (names : List Name) : Type 0 where
  pub points : IsPoints names
  pub some : 1 ≤ length names
  pub few : length names ≤ most_mounts
