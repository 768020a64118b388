-- The words of what becomes of a conflict. (After Elektra's `kdb merge`.)
use Rattle.std.specs.Prelude.{ℕ, List, Option, Some, None, if◌then◌else◌, codes}
use Rattle.general_words.specs.Texts.{is_text}
use Rattle.key_merge.specs.declared.strategies.Strategy.{Strategy}
use Rattle.key_merge.specs.declared.strategies.Strategy.TheVariants.{Abort, Our, Their}

-- the strategy of a word
abbrev pub strategy_of : List ℕ → Option Strategy
strategy_of word =
    if is_text word (codes "abort") then Some Abort else
    (if is_text word (codes "our") then Some Our else
    (if is_text word (codes "their") then Some Their else None))
