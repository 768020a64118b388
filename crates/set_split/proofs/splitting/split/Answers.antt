-- Each mount takes its part out of the keys that were left aside so far.
use Rattle.std.proofs.Common.{◌≡◌, ℕ, List, length, get_or, refl, ap, ◌∙◌, arith}
use Rattle.std.specs.FinMap as map
use Rattle.model_maps.specs.KeyMap.{KeyMap}
use Rattle.set_split.specs.Involved.{involved_in}
use Rattle.set_split.specs.Seen.{numbered}
use Rattle.set_split.proofs.SplitLemmas.{parts-more, unowned-none, unowned-step}
use Rattle.set_split.proofs.splitting.split.Goals as goal

pub loop-mount-init : goal.loop-mount-init
loop-mount-init c = record {
  made = ap numbered c.in_ok-parts.ensures.items;
  counted_aside = c.len-aside.ensures ∙ unowned-none c.args.points.now c.args.keys.now;
}

pub overflow_sub-aside : goal.overflow_sub-aside
overflow_sub-aside c =
    let items : List ℕ = c.as_slice-mount-items.result.now in
    let is : items ≡ involved_in c.args.points.now c.args.parent.now = c.as_slice-mount-items.ensures ∙ c.in_ok-mounts.ensures in
    let next = unowned-step c.args.points.now c.args.parent.now c.args.keys.now items c.loop-mount.mount-index is c.loop-mount-test.true in
    omega (arith, next, c.loop-mount.invariant.counted_aside, c.len-aside-in-loop-mount.ensures, ap (λ (k : KeyMap). length (map.entries k)) c.in_ok-mine.ensures)

pub loop-mount-preserved : goal.loop-mount-preserved
loop-mount-preserved c =
    let points = c.args.points.now in
    let keys = c.args.keys.now in
    let items : List ℕ = c.as_slice-mount-items.result.now in
    let is : items ≡ involved_in points c.args.parent.now = c.as_slice-mount-items.ensures ∙ c.in_ok-mounts.ensures in
    let n : ℕ = c.loop-mount.mount-index in
    let next = unowned-step points c.args.parent.now keys items n is c.loop-mount-test.true in
    record {
      made =
          ap numbered c.in_ok-push.ensures.items
          ∙ parts-more points keys c.loop-mount.parts.items items n (record { mount = get_or items n 0; keys = c.in_ok-mine.mine }) c.loop-mount-test.true refl c.in_ok-mine.ensures c.loop-mount.invariant.made;
      counted_aside = omega (arith, next, c.loop-mount.invariant.counted_aside, c.len-aside-in-loop-mount.ensures, ap (λ (k : KeyMap). length (map.entries k)) c.in_ok-mine.ensures);
    }
