-- The names that a cascading name stands for, in the order in which they are searched. (After Elektra's page on
-- cascading; the search of cascading names in `override` and `fallback` is this project's own.)
use Rattle.std.specs.Prelude.{ℕ, ◌==◌, if◌then◌else◌, List, [], ◌∷◌, ◌++◌, map, length, Option, Some, None, codes}
use Rattle.std.specs.List.{flat_map}
use Rattle.std.specs.Option.{option_to_list}
use Rattle.general_words.specs.Texts.{is_text}
use Rattle.model_names.specs.declared.namespaces.Namespace.{Namespace}
use Rattle.model_names.specs.declared.namespaces.Namespace.TheVariants.{Cascading, Proc, Dir, User, System, Default}
use Rattle.model_names.specs.Name.{Name, Part, rank}
use Rattle.model_names.specs.NameOf.{name_of}
use Rattle.model_maps.specs.Entry.{Meta, array_texts}
use Rattle.model_specified.specs.Specified.{default_name}

-- a path in some namespaces
abbrev pub paths_in : List Part → List Namespace → List Name
paths_in path namespaces = map (λ namespace. record { namespace = namespace; parts = path }) namespaces

-- the namespaces that are searched where nothing else is said
abbrev pub usual : List Namespace
usual = Proc ∷ Dir ∷ User ∷ System ∷ []

-- the names that a name in `override` or `fallback` stands for: itself, and for a cascading one its path in these
-- namespaces
abbrev pub names_for : Option Name → List Name
names_for None = []
names_for (Some name) = if rank name.namespace == rank Cascading then paths_in name.parts usual else name ∷ []

-- those of a text: none where it is no name
abbrev pub names_of : List ℕ → List Name
names_of text = names_for (name_of text)

-- the namespace that a word asks for
abbrev pub searched : List ℕ → Option Namespace
searched word =
    if is_text word (codes "proc") then Some Proc else
    (if is_text word (codes "dir") then Some Dir else
    (if is_text word (codes "user") then Some User else
    (if is_text word (codes "system") then Some System else
    (if is_text word (codes "default") then Some Default else None))))

-- a path in the namespaces that words ask for, in their order; where there is no word, in the usual ones
abbrev pub paths_by : List Part → List (List ℕ) → List Name
paths_by path words =
    if length words == 0 then paths_in path usual else flat_map (λ word. paths_in path (option_to_list (searched word))) words

-- all names that a path stands for: those in `override`, its path in the namespaces that words ask for, those in
-- `fallback`, and its default
abbrev pub candidates_by : List Part → List (List ℕ) → List (List ℕ) → List (List ℕ) → List Name
candidates_by path overrides words fallbacks =
    flat_map names_of overrides ++ (paths_by path words ++ (flat_map names_of fallbacks ++ default_name path ∷ []))

-- by what its specification metadata says
abbrev pub candidates : List Part → Meta → List Name
candidates path said =
    candidates_by path (array_texts said (codes "override")) (array_texts said (codes "namespace")) (array_texts said (codes "fallback"))
