-- What a matcher answers. (This project's own.)
use Rattle.std.specs.Prelude.{◌≡◌, ℕ, ◌<◌, List, length, Some, codes}
use Rattle.std.specs.FinMap as map
use Rattle.kdb_outside.specs.Calls.{next_count}
use Rattle.model_maps.specs.Entry.{Meta}
use Rattle.model_rules.specs.Rules.{breach, longest_pattern}
use Rattle.model_rules.specs.declared.breaches.Broken.{Broken}
use Rattle.regex_check.specs.Grammar.{Matches, Misses}
use Rattle.regex_check.specs.declared.patterns.Search.{Search}
use Rattle.regex_check.specs.declared.patterns.Search.TheVariants.{Found, Missing, Refused}

-- an answer is true; a refusal says nothing
abbrev pub Answers : List ℕ → List ℕ → Search → Type 0
Answers pattern value Found = Matches pattern value
Answers pattern value Missing = Misses pattern value
Answers pattern value Refused = Unit {0}

-- the count of refusals after an answer
abbrev pub count_after : Search → ℕ → ℕ
count_after Found count = count
count_after Missing count = count
count_after Refused count = next_count count

-- what a search refutes: the text as a pattern, where the search may refuse it, or the value
pub data Refutes (MayRefuse : Type 0) (pattern value : List ℕ) (broken : Broken) : Type 0 where
  NoPattern : MayRefuse → broken ≡ breach 6 pattern → Refutes MayRefuse pattern value broken
  NoMatch : Misses pattern value → broken ≡ breach 7 value → Refutes MayRefuse pattern value broken

-- no pattern is handed to a matcher: there is none, or it is too long
abbrev pub HandsNothingOn : Meta → Type 0
HandsNothingOn meta =
    (pattern : List ℕ) → map.get meta (codes "check/validation") ≡ Some pattern → longest_pattern < length pattern
