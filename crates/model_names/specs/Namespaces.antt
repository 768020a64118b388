-- Which namespaces stand for files. (After Elektra's page on namespaces; that files stand in four of them is this
-- project's own.)
use Rattle.std.specs.Prelude.{nat_eq, Bool, List, [], ◌∷◌}
use Rattle.std.specs.List.{list_any}
use Rattle.model_names.specs.declared.namespaces.Namespace.{Namespace}
use Rattle.model_names.specs.declared.namespaces.Namespace.TheVariants.{Spec, Dir, User, System}
use Rattle.model_names.specs.Name.{rank}

-- the namespaces whose keys are in files, in their order
abbrev pub file_namespaces : List Namespace
file_namespaces = Spec ∷ Dir ∷ User ∷ System ∷ []

-- a namespace is one of them
abbrev pub has_files : Namespace → Bool
has_files namespace = list_any (λ other. nat_eq (rank namespace) (rank other)) file_namespaces
