-- The visible keys of all mounts together have a limit: a mount that goes over it is bad. (This project's own.)
use Rattle.std.specs.Prelude.{ℕ, ◌+◌, nat_lt, Bool, if◌then◌else◌, List, [], ◌∷◌, Option, Some, None}
use Rattle.std.specs.Option.{unwrap_or}
use Rattle.general_words.specs.Saturated.{saturated}
use Rattle.model_names.specs.Order.{name_eq}
use Rattle.general_words.specs.Searches.{first_some}
use Rattle.model_maps.specs.KeyMap.{weight, heaviest_map}
use Rattle.mount_table.specs.Points.{own_point}
use Rattle.mounted_files.specs.declared.causes.Cause.TheVariants.{TooHeavy}
use Rattle.mounted_files.specs.declared.files.FileState.{FileState}
use Rattle.mounted_files.specs.declared.files.FileState.TheVariants.{Good, Bad}
use Rattle.mounted_files.specs.declared.files.MountedFile.{MountedFile}

-- what the visible keys of a file weigh; those of a bad one are left out
abbrev pub visible_weight : FileState → ℕ
visible_weight (Good visible shadow) = weight visible
visible_weight (Bad cause) = 0

-- a file that is weighed behind others of some weight: it is bad where it brings the sum over the limit
abbrev pub weighed_behind : ℕ → FileState → FileState
weighed_behind sum (Good visible shadow) =
    if nat_lt heaviest_map (sum + weight visible) then Bad (TooHeavy (saturated (sum + weight visible))) else Good visible shadow
weighed_behind sum (Bad cause) = Bad cause

-- a mounted file is that of the table's own keys
abbrev pub is_own : MountedFile → Bool
is_own file = name_eq file.mount.at own_point

-- a mounted file, weighed behind others: the table's own file is always the first to be weighed
abbrev pub weighed_file : ℕ → MountedFile → MountedFile
weighed_file sum file = record file { state = weighed_behind (if is_own file then 0 else sum) file.state }

-- what a weighed file adds to the sum for those behind it; the own one has been added before
abbrev pub added_weight : MountedFile → ℕ
added_weight file = if is_own file then 0 else visible_weight file.state

-- files weighed in the order of the table, behind others
abbrev pub weighed_from : ℕ → List MountedFile → List MountedFile
weighed_from sum [] = []
weighed_from sum (file ∷ files) =
    let first = weighed_file sum file in first ∷ weighed_from (sum + added_weight first) files

-- what a file weighs that is the table's own, which is weighed behind none
abbrev pub own_alone : MountedFile → Option ℕ
own_alone file = if is_own file then Some (visible_weight (weighed_behind 0 file.state)) else None

-- what the table's own file weighs
abbrev pub own_weight : List MountedFile → ℕ
own_weight files = unwrap_or (first_some own_alone files) 0

-- all files weighed: the table's own file first, and then in the order of the table
abbrev pub weighed : List MountedFile → List MountedFile
weighed files = weighed_from (own_weight files) files
