-- A small history, for the worked examples.
use Rattle.std.specs.Prelude.{List, [], ◌∷◌, codes, Some, None}
use Rattle.model_names.specs.declared.namespaces.Namespace.TheVariants.{User}
use Rattle.model_names.specs.Name.{Name}
use Rattle.model_maps.specs.Entry.{Entry, plain_entry}
use Rattle.model_history.specs.History.{Commit}

abbrev pub name_a : Name
name_a = record { namespace = User; parts = codes "a" ∷ [] }

abbrev pub name_b : Name
name_b = record { namespace = User; parts = codes "b" ∷ [] }

abbrev pub one : Entry
one = plain_entry (codes "1")

abbrev pub two : Entry
two = plain_entry (codes "2")

-- the first commit sets `user:/a` and `user:/b` to 1, the second `user:/b` to 2, and the third takes both away
abbrev pub three_commits : List Commit
three_commits =
    record { handle = 1; touched = 0 ∷ []; changes = (name_a, Some one) ∷ (name_b, Some one) ∷ [] }
    ∷ record { handle = 2; touched = 0 ∷ []; changes = (name_b, Some two) ∷ [] }
    ∷ record { handle = 1; touched = 0 ∷ []; changes = (name_a, None) ∷ (name_b, None) ∷ [] }
    ∷ []
