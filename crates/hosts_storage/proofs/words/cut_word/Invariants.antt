-- No blank was passed.
use Rattle.std.proofs.Common.{◌≡◌, false, take}
use Rattle.std.specs.List.{AllByRecursion}
use Rattle.model_hosts.specs.Line.{is_blank}
use Rattle.hosts_storage.proofs.words.cut_word.Given as goal

abbrev pub invariant-loop-at : goal.invariant-loop-at
invariant-loop-at l = AllByRecursion (λ b. is_blank b ≡ false) (take l.at l.bytes)
