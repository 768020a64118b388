-- A `KeyName` is seen as its name, which is well formed.
use Rattle.std.specs.Prelude.{◌≡◌, length}
use Rattle.key_name.specs.declared.names.KeyName.TheInside.{Inside}
use Rattle.model_names.specs.Name.{Name}
use Rattle.model_names.specs.Spelling.{path}
use Rattle.model_names.specs.WellFormed.{IsName}

-- the namespace and the parts
abbrev pub name_of : Inside → Name
name_of inside = record { namespace = inside.namespace; parts = inside.parts }

-- it means a name that some text spells, and keeps the length of its path
pub record MeansName (inside : Inside) : Type 0 where
  pub name : IsName (name_of inside)
  pub bytes : inside.path_bytes ≡ length (path (name_of inside))
