use Rattle.std.proofs.Common.{map, take}
use Rattle.std.specs.List.{AllZip}
use Rattle.model_rules.specs.Range.{IsItem}
use Rattle.range_check.proofs.ranges.intervals_of.Given as goal

abbrev pub invariant-loop-item : goal.invariant-loop-item
invariant-loop-item l = AllZip IsItem (map (λ item. item.now) (take l.item-index l.item-items)) l.intervals.items
