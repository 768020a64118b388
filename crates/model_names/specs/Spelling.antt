-- The one canonical text of a name. (After Elektra's page on key names; the escapes are this project's own.)
use Rattle.std.specs.Prelude.{ℕ, Bool, ◌||◌, ◌==◌, if◌then◌else◌, List, [], ◌∷◌, ◌++◌, length, drop, codes}
use Rattle.std.specs.List.{flat_map}
use Rattle.model_names.specs.declared.namespaces.Namespace.{Namespace}
use Rattle.model_names.specs.declared.namespaces.Namespace.TheVariants.{Cascading, Spec, Proc, Dir, User, System, Default}
use Rattle.model_names.specs.Name.{Part, Name}
use Rattle.general_words.specs.Texts.{is_text}

-- what stands before the first slash of a name in a namespace
abbrev pub word_of : Namespace → List ℕ
word_of Cascading = []
word_of Spec = codes "spec:"
word_of Proc = codes "proc:"
word_of Dir = codes "dir:"
word_of User = codes "user:"
word_of System = codes "system:"
word_of Default = codes "default:"

-- a byte of a part as a spelling has it: a backslash stands before a backslash and before a slash
abbrev pub escaped : ℕ → List ℕ
escaped b = if (b == 92) || (b == 47) then 92 ∷ b ∷ [] else b ∷ []

-- a part that would be read as something else if it were spelled as it is: `%`, `.` and `..`
abbrev pub is_reserved : Part → Bool
is_reserved part = is_text part (codes "%") || is_text part (codes ".") || is_text part (codes "..")

-- how a part is spelled: the empty part as `%`, a reserved one behind a backslash, any other with its escapes
abbrev pub spelled : Part → List ℕ
spelled part =
    if length part == 0 then codes "%" else (if is_reserved part then 92 ∷ part else flat_map escaped part)

-- the path of a name: a slash before each spelled part, and one slash at a root
abbrev pub path_of_parts : List Part → List ℕ
path_of_parts [] = codes "/"
path_of_parts (part ∷ parts) = flat_map (λ p. 47 ∷ spelled p) (part ∷ parts)

abbrev pub path : Name → List ℕ
path name = path_of_parts name.parts

-- the canonical spelling of a name
abbrev pub spelling : Name → List ℕ
spelling name = word_of name.namespace ++ path name

-- a name as a file has it, whose names have no namespace: its path without the first slash
abbrev pub relative_text : Name → List ℕ
relative_text name = drop 1 (path name)
