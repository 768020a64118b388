use Rattle.std.specs.Prelude.{◌+◌, ◌<◌, length, take}
use Rattle.std.specs.List.{AllZip}
use Rattle.std.proofs.Common.{sym, ap, subst, ◌∙◌, arith}
use Rattle.model_rules.specs.Range.{IsItem}
use Rattle.range_check.proofs.ZipLemmas.{items_more, no_range, texts_of}
use Rattle.range_check.proofs.ranges.intervals_of.Goals as goal

pub returns-in-None : goal.returns-in-None
returns-in-None c =
    let within : c.loop-item.item-index < length c.as_slice-item-items.result.now = omega arith in
    no_range c.as_slice-item-items.result.now _ c.loop-item.item-index _ (ap texts_of c.as_slice-item-items.ensures.value ∙ c.in_ok-items.ensures) within c.in-None.ensures

pub loop-item-preserved : goal.loop-item-preserved
loop-item-preserved c =
    let within : c.loop-item.item-index < length c.as_slice-item-items.result.now = omega arith in
    subst (λ is. AllZip IsItem (texts_of (take (c.loop-item.item-index + 1) c.as_slice-item-items.result.now)) is) (sym c.in_ok-push-in-Some.ensures.items)
    (items_more c.as_slice-item-items.result.now c.loop-item.item-index _ _ _ within c.loop-item.invariant c.in-Some.ensures)
