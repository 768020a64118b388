-- Which texts of entries are mountpoints, and which texts name their files. (This project's own.)
use Rattle.std.specs.Prelude.{ℕ, nat_le, Bool, not, ◌&&◌, if◌then◌else◌, List, [], ◌∷◌, length, nat_eq, Option, Some, None, option_and_then, codes}
use Rattle.std.specs.List.{starts_with}
use Rattle.kdb_outside.specs.FileName.{is_file_name}
use Rattle.model_names.specs.declared.namespaces.Namespace.TheVariants.{System}
use Rattle.model_names.specs.Below.{is_at_or_below}
use Rattle.model_names.specs.Name.{Name}
use Rattle.general_words.specs.Texts.{is_text}
use Rattle.model_names.specs.NameOf.{name_of}
use Rattle.model_names.specs.Namespaces.{has_files}
use Rattle.model_names.specs.Spelling.{spelling}

-- the name whose keys hold the mount table
abbrev pub own_point : Name
own_point = record { namespace = System; parts = codes "elektra" ∷ [] }

-- the most bytes of a mountpoint
abbrev pub longest_point : ℕ
longest_point = 1024

-- a text is the canonical spelling of a name that may be mounted: its keys are in files, it is short, and not where the
-- table is
abbrev pub is_point : List ℕ → Name → Bool
is_point text name =
    has_files name.namespace && (nat_le (length text) longest_point && (is_text (spelling name) text && not (is_at_or_below own_point name)))

-- the mountpoint that an entry's text is
abbrev pub point_of : List ℕ → Option Name
point_of text = option_and_then (λ name. if is_point text name then Some name else None) (name_of text)

-- the file that a text names; a name that begins with `journal` is no mount's
abbrev pub file_of : List ℕ → Option (List ℕ)
file_of text = if is_file_name text && not (starts_with nat_eq text (codes "journal")) then Some text else None
