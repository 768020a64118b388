-- Which mounts have to do with a parent. (After Elektra's kdbGet: its parent key says which files are read.)
use Rattle.std.specs.Prelude.{ℕ, nat_eq, Bool, false, ◌||◌, ◌==◌, if◌then◌else◌, List, [], ◌∷◌, map, length, Option, Some, None, slice_get}
use Rattle.std.specs.List.{filter, list_any, range_with_len}
use Rattle.std.specs.Option.{option_eq}
use Rattle.model_names.specs.declared.namespaces.Namespace.TheVariants.{Cascading}
use Rattle.model_names.specs.Below.{is_at_or_below}
use Rattle.model_names.specs.Name.{Name, rank}
use Rattle.key_name.specs.Owner.{owner_of}
use Rattle.model_names.specs.Namespaces.{file_namespaces}

-- a mount owns a name
abbrev pub owns : List Name → ℕ → Name → Bool
owns points i name = option_eq nat_eq (owner_of points name) (Some i)

-- the names that a parent stands for: it itself, and for a cascading one its path in each namespace that has files
abbrev pub roots_of : Name → List Name
roots_of parent =
    if rank parent.namespace == rank Cascading then map (λ namespace. record { namespace = namespace; parts = parent.parts }) file_namespaces else parent ∷ []

-- a point stands at a name or below it
abbrev pub stands_below : Name → Option Name → Bool
stands_below root None = false
stands_below root (Some point) = is_at_or_below root point

-- a mount is involved in a name: it owns the name, or its point is the name or below it
abbrev pub is_involved_at : List Name → ℕ → Name → Bool
is_involved_at points i root = owns points i root || stands_below root (slice_get points i)

-- and in a parent: in one of the names that it stands for
abbrev pub is_involved : List Name → Name → ℕ → Bool
is_involved points parent i = list_any (is_involved_at points i) (roots_of parent)

-- the numbers of the mounts that are involved in a parent, ascending
abbrev pub involved_in : List Name → Name → List ℕ
involved_in points parent = filter (is_involved points parent) (range_with_len 0 (length points))
