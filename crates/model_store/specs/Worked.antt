-- A small history of two handles on one mount, for the worked rows.
use Rattle.std.specs.Prelude.{ℕ, List, [], ◌∷◌, codes, Some, None}
use Rattle.std.specs.FinMap as map
use Rattle.model_names.specs.declared.namespaces.Namespace.TheVariants.{User}
use Rattle.model_names.specs.Name.{Name}
use Rattle.model_maps.specs.Entry.{Entry, plain_entry}
use Rattle.model_maps.specs.KeyMap.{no_keys}
use Rattle.model_history.specs.History.{Commit}
use Rattle.model_store.specs.Sets.{Prepared}

-- the mount is at `user:/`
abbrev pub one_point : List Name
one_point = record { namespace = User; parts = [] } ∷ []

abbrev pub name_a : Name
name_a = record { namespace = User; parts = codes "a" ∷ [] }

abbrev pub name_b : Name
name_b = record { namespace = User; parts = codes "b" ∷ [] }

abbrev pub name_c : Name
name_c = record { namespace = User; parts = codes "c" ∷ [] }

abbrev pub one : Entry
one = plain_entry (codes "1")

-- the first handle sets `user:/a`, the second `user:/b`, and the first `user:/c`
abbrev pub by_turns : List Commit
by_turns =
    record { handle = 1; touched = 0 ∷ []; changes = (name_a, Some one) ∷ [] }
    ∷ record { handle = 2; touched = 0 ∷ []; changes = (name_b, Some one) ∷ [] }
    ∷ record { handle = 1; touched = 0 ∷ []; changes = (name_c, Some one) ∷ [] }
    ∷ []

-- a set of the first handle that takes a key away, with its front of the mount
abbrev pub taking : Name → ℕ → Prepared
taking name front = record {
  handle = 1;
  committed = 2;
  involved = 0 ∷ [];
  fronts = λ m. Some front;
  keys = no_keys;
  touched = 0 ∷ [];
  changes = map.insert map.empty name None;
  aside = 0;
}
