-- The bytes of the items so far.
use Rattle.std.proofs.Common.{◌≡◌, ◌+◌, length, take, sum_by}
use Rattle.general_words.specs.Saturated.{saturated}
use Rattle.key_meta.proofs.metas.bytes_of.Given as goal

abbrev pub invariant-loop-item : goal.invariant-loop-item
invariant-loop-item l = l.bytes ≡ saturated (sum_by (λ item. length item.0 + length item.1) (take l.item-index l.items))
