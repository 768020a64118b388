-- Where the entries of a mount table stand among the keys. (After Elektra's page on mounting; the layout is this
-- project's own.)
use Rattle.std.specs.Prelude.{ℕ, List, [], ◌∷◌, Option, None, if◌then◌else◌, slice_get, codes}
use Rattle.model_names.specs.declared.namespaces.Namespace.TheVariants.{System}
use Rattle.model_names.specs.Below.{is_at_or_below}
use Rattle.model_names.specs.Name.{Name, Part}

-- the name below which all entries stand
abbrev pub mountpoints : Name
mountpoints = record { namespace = System; parts = codes "elektra" ∷ codes "mountpoints" ∷ [] }

-- the name of an entry: its text is one part
abbrev pub entry_name : Part → Name
entry_name text = record { namespace = System; parts = codes "elektra" ∷ codes "mountpoints" ∷ text ∷ [] }

-- the name of a child of an entry
abbrev pub child_name : Part → List ℕ → Name
child_name text word = record { namespace = System; parts = codes "elektra" ∷ codes "mountpoints" ∷ text ∷ word ∷ [] }

-- the child that holds the file of an entry
abbrev pub path_word : List ℕ
path_word = codes "path"

-- the child that holds the format of an entry
abbrev pub plugin_word : List ℕ
plugin_word = codes "plugin"

-- the child that says how the conflicts of an entry are counted
abbrev pub conflicts_word : List ℕ
conflicts_word = codes "conflicts"

-- the text of the entry that a name belongs to
abbrev pub text_of_entry : Name → Option Part
text_of_entry name = if is_at_or_below mountpoints name then slice_get name.parts 2 else None
