-- Which names stand below which. (Elektra's API documentation, keyIsBelow, in this profile.)
use Rattle.std.specs.Prelude.{◌≡◌, ◌≢◌, ◌⊎◌, nat_eq, Bool, ◌&&◌, List, [], ◌++◌}
use Rattle.std.specs.Cmp.Lexicographic.{pointwise}
use Rattle.std.specs.List.{starts_with}
use Rattle.model_names.specs.Name.{Part, Name, rank}

-- a name is below another: in one namespace, the other's parts are a front of its parts, and some follow
pub record IsBelow (name above : Name) : Type 0 where
  pub same_namespace : name.namespace ≡ above.namespace
  pub more : List Part
  pub some_more : more ≢ []
  pub parts : name.parts ≡ above.parts ++ more

-- the name itself, or one below it
abbrev pub IsBelowOrSame : Name → Name → Type 0
IsBelowOrSame name above = (name ≡ above) ⊎ IsBelow name above

-- the same as a test: one namespace, and the other's parts are a front of its parts
abbrev pub is_at_or_below : Name → Name → Bool
is_at_or_below above name =
    nat_eq (rank name.namespace) (rank above.namespace) && starts_with (pointwise nat_eq) name.parts above.parts
