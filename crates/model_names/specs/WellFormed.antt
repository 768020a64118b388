-- The parts and the names that some text spells. (After Elektra's page on key names; the rule on array parts and the
-- limit are this project's own.)
use Rattle.std.specs.Prelude.{◌≡◌, ◌<◌, ◌≤◌, true, length}
use Rattle.std.specs.List.{AllByRecursion}
use Rattle.std.specs.Str.{IsUtf8}
use Rattle.model_names.specs.Name.{Part, Name}
use Rattle.model_names.specs.ArrayPart.{is_array_like, is_canonical}
use Rattle.model_names.specs.Spelling.{path}
use Rattle.model_names.specs.Spells.{longest_path}

-- a part is a text without NUL, and canonical where it looks like an array's
pub record IsPart (part : Part) : Type 0 where
  pub utf8 : IsUtf8 part
  pub no_nul : AllByRecursion (λ b. 0 < b) part
  pub canonical : is_array_like part ≡ true → is_canonical part ≡ true

-- a name has such parts alone, and its path isn't too long
pub record IsName (name : Name) : Type 0 where
  pub parts : AllByRecursion IsPart name.parts
  pub limit : length (path name) ≤ longest_path
