-- The lines that the tool puts on err beside those of what a store refuses, and those that it prints. (This project's
-- own; the codes are Elektra's.)
use Rattle.std.specs.Prelude.{ℕ, Bool, if◌then◌else◌, List, [], ◌∷◌, ◌++◌, codes}
use Rattle.model_names.specs.Name.{Name}
use Rattle.model_quoting.specs.Quoted.{quoted, shown}
use Rattle.kdb_outside.specs.Kind.{kind_word}
use Rattle.model_specified.specs.declared.violations.Violation.{Violation}
use Rattle.mount_table.specs.declared.mounts.Mount.{Mount}
use Rattle.store_lines.specs.Lines.{broken_rule}

-- a line has the tool's name before its text
abbrev pub line : List ℕ → List ℕ
line text = codes "kdb: " ++ (text ++ 10 ∷ [])

abbrev pub not_found : Name → List ℕ
not_found name = codes "not found: " ++ shown name

-- a key has no metadata of this name
abbrev pub no_metadata : List ℕ → List ℕ
no_metadata meta = codes "no metadata: " ++ quoted meta

abbrev pub write_fault : List ℕ
write_fault = codes "C01100 write-fault"

abbrev pub read_fault : List ℕ
read_fault = codes "C01100 read-fault"

-- what `validate` prints of a key that breaks a rule
abbrev pub line_of_violation : Violation → List ℕ
line_of_violation violation = broken_rule violation ++ 10 ∷ []

-- what `set` prints of a key that wasn't there
abbrev pub created : Name → List ℕ → List ℕ
created name value = codes "Create a new key " ++ (shown name ++ (codes " with string " ++ (quoted value ++ 10 ∷ [])))

-- what `set` prints of a key that was there
abbrev pub set_to : List ℕ → List ℕ
set_to value = codes "Set string to " ++ (quoted value ++ 10 ∷ [])

-- a name as it is shown, with a line feed
abbrev pub line_of_name : Name → List ℕ
line_of_name name = shown name ++ 10 ∷ []

-- what `merge` prints of a key that both sides changed, and not alike
abbrev pub line_of_conflict : Name → List ℕ
line_of_conflict name = codes "conflict " ++ line_of_name name

-- what `mounts` prints of how conflicts are counted: a word where they are by key
abbrev pub counting : Bool → List ℕ
counting by_key = if by_key then codes " keys" else []

-- what `mounts` prints of a mount: its mountpoint, its file, the word of its format, and how its conflicts are counted
abbrev pub line_of_mount : Mount → List ℕ
line_of_mount mount =
    shown mount.at ++ (32 ∷ (mount.file ++ (32 ∷ (kind_word mount.kind ++ (counting mount.by_key ++ 10 ∷ [])))))
