-- What the entries of a mount table say, or what is wrong with the first faulty one. (This project's own.)
use Rattle.std.specs.Prelude.{ℕ, Bool, false, if◌then◌else◌, List, [], ◌∷◌, ◌++◌, Option, Some, None, Result, Ok, Err, ok_or}
use Rattle.std.specs.List.{list_any}
use Rattle.model_names.specs.Name.{Name, Part}
use Rattle.general_words.specs.Texts.{is_text}
use Rattle.kdb_outside.specs.Kind.{kind_of}
use Rattle.kdb_outside.specs.declared.kinds.Kind.{Kind}
use Rattle.kdb_outside.specs.declared.kinds.Kind.TheVariants.{Dump}
use Rattle.mount_table.specs.Counting.{counting_said}
use Rattle.mount_table.specs.Points.{point_of, file_of}
use Rattle.mount_table.specs.declared.entries.MountEntry.{MountEntry}
use Rattle.mount_table.specs.declared.faults.TableFault.{TableFault}
use Rattle.mount_table.specs.declared.faults.TableFault.TheVariants.{BadMountpoint, NoPath, BadPath, UnknownPlugin, FileTwice, BadConflicts}
use Rattle.mount_table.specs.declared.mounts.Mount.{Mount}

infixl 10 ◌>>=◌
-- goes on where nothing is wrong
abbrev pub ◌>>=◌ : {A B : Type 0} → Result A TableFault → (A → Result B TableFault) → Result B TableFault
(Ok x) >>= f = f x
(Err fault) >>= f = Err fault

-- the format of an entry, whose child `plugin` may be missing
abbrev pub kind_said : Option (List ℕ) → Option Kind
kind_said None = Some Dump
kind_said (Some word) = kind_of word

-- the mount of an entry at a mountpoint, or what is wrong with it: the file first, then the format. It counts by its
-- backend
abbrev pub mount_at : Part → MountEntry → Name → Result Mount TableFault
mount_at text said point = do
  path ← ok_or said.path (NoPath text)
  file ← ok_or (file_of path) (BadPath text)
  kind ← ok_or (kind_said said.plugin) (UnknownPlugin text)
  Ok (record { at = point; file = file; kind = kind; by_key = false })

-- the mount of an entry by itself, or what is wrong with it, the mountpoint first
abbrev pub mount_of : Part → MountEntry → Result Mount TableFault
mount_of text said = do
  point ← ok_or (point_of text) (BadMountpoint text)
  mount_at text said point

-- the same mount, with its conflicts counted as its entry says, or what is wrong with that
abbrev pub counted : Part → MountEntry → Mount → Result Mount TableFault
counted text said mount = do
  by_key ← ok_or (counting_said mount.kind said.conflicts) (BadConflicts text)
  Ok (record mount { by_key = by_key })

-- the next mount: that of an entry, whose file isn't taken
abbrev pub next_mount : (List ℕ → Bool) → Part → MountEntry → Result Mount TableFault
next_mount taken text said = do
  mount ← mount_of text said
  if taken mount.file then Err (FileTwice text) else counted text said mount

-- a file is that of one of these mounts
abbrev pub is_taken : List Mount → List ℕ → Bool
is_taken mounts file = list_any (λ mount. is_text file mount.file) mounts

-- some mounts and those of the entries behind them, or what is wrong with the first faulty entry
abbrev pub mounts_from : List Mount → List (Part × MountEntry) → Result (List Mount) TableFault
mounts_from mounts [] = Ok mounts
mounts_from mounts (entry ∷ entries) = do
  mount ← next_mount (is_taken mounts) entry.0 entry.1
  mounts_from (mounts ++ mount ∷ []) entries
