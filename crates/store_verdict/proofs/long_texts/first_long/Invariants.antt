-- The first text that is too long is that of the keys to come.
use Rattle.std.proofs.Common.{◌≡◌}
use Rattle.general_words.specs.Searches.{first_some}
use Rattle.mounted_files.specs.Setting.{first_long_in, long_in}
use Rattle.store_verdict.proofs.long_texts.first_long.Given as goal

abbrev pub invariant-loop-name : goal.invariant-loop-name
invariant-loop-name l = first_some (long_in l.points l.mounts) l.name-iterator ≡ first_long_in l.points l.mounts l.keys
