-- A pattern that the crate `regex` compiled with its default options.
use Rattle.std.specs.Prelude.{◌≡◌, ℕ, List}
use Rattle.regex.specs.Patterns.{default_config}
use Rattle.regex.specs.Strings.{regex_source, regex_config, IsReadFromSource}
use Rattle.regex.specs.declared.string.regex.Regex.{Regex}

pub record IsCompiled (regex : Regex) : Type 0 where
  pub config : regex_config regex ≡ default_config
  pub read : IsReadFromSource regex

-- of a text
pub record IsCompiledOf (pattern : List ℕ) (regex : Regex) : Type 0 where
  pub source : regex_source regex ≡ pattern
  pub compiled : IsCompiled regex
