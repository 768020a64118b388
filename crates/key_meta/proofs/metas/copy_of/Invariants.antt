-- The items so far have been copied.
use Rattle.std.proofs.Common.{◌≡◌, take}
use Rattle.key_meta.proofs.metas.copy_of.Given as goal

abbrev pub invariant-loop-item : goal.invariant-loop-item
invariant-loop-item l = l.copied.items ≡ take l.item-index l.items
