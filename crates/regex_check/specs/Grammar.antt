-- Which texts are patterns, and where they match: as the reader of the toolchain's crate `regex` reads them with its
-- default options. A pattern isn't anchored: it may match anywhere in a value. (Rust's crate `regex`.)
use Rattle.std.specs.Prelude.{◌≡◌, ◌≤◌, Bool, true, false, List, ℕ, IsSomeAnd, is_some}
use Rattle.std.specs.Option.{option_map_or}
use Rattle.std.specs.Str.{chars}
use Rattle.regex.specs.Patterns.{default_config, find_str}
use Rattle.regex_syntax.specs.Grammar.{read}

-- the reader reads the text, and what it reads is nested no deeper than it allows
unfoldable pub IsInGrammar : List ℕ → Type 0
IsInGrammar pattern = IsSomeAnd (read default_config (chars pattern)) (λ (re, _). re.depth ≤ default_config.nest_limit)

-- what the reader reads matches somewhere in a value
unfoldable pub matches_in : List ℕ → List ℕ → Bool
matches_in pattern value =
    option_map_or (λ (re, _). is_some (find_str re.value value 0)) (read default_config (chars pattern)) false

-- a pattern matches somewhere in a value
pub record Matches (pattern value : List ℕ) : Type 0 where
  pub grammar : IsInGrammar pattern
  pub is : matches_in pattern value ≡ true

-- a pattern matches nowhere in a value
pub record Misses (pattern value : List ℕ) : Type 0 where
  pub grammar : IsInGrammar pattern
  pub is : matches_in pattern value ≡ false
