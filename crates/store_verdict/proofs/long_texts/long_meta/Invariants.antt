-- The first text that is too long is among those to come.
use Rattle.std.proofs.Common.{◌≡◌}
use Rattle.std.specs.FinMap as map
use Rattle.general_words.specs.Searches.{first_some}
use Rattle.mounted_files.specs.Setting.{if_long}
use Rattle.store_verdict.proofs.long_texts.long_meta.Given as goal

abbrev pub invariant-loop-text : goal.invariant-loop-text
invariant-loop-text l =
    first_some (λ item. if_long item.1) l.text-iterator ≡ first_some (λ item. if_long item.1) (map.entries l.meta)
