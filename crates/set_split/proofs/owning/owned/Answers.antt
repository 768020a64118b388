-- One point after another, what is at or below it goes out.
use Rattle.std.proofs.Common.{◌≡◌, ◌+◌, ◌-◌, ◌<◌, get_or, length, take, drop, sym, ap, subst, ◌∙◌, arith}
use Rattle.std.proofs.lemmas.List.{length-drop, take_all}
use Rattle.model_maps.specs.KeyMap.{at_or_below}
use Rattle.set_split.proofs.OwningLemmas.{IsLeft, left-all, left-next, left-owned, left-rest, owned-beyond, same_place}
use Rattle.set_split.proofs.owning.owned.Goals as goal

pub returns-then-i-points : goal.returns-then-i-points
returns-then-i-points c =
    owned-beyond c.args.points.now c.args.i c.args.keys.now c.new.result (omega arith) c.new.ensures

pub loop-other-init : goal.loop-other-init
loop-other-init c = λ point there.
    left-all c.args.points.now c.args.i point c.args.keys.now c.in_ok-owned.owned
    (c.in_ok-owned.ensures ∙ ap (λ p. at_or_below p c.args.keys.now) (same_place c.args.points.now c.args.i c.index-points-i.result point (omega arith) c.index-points-i.is there))

pub loop-other-preserved : goal.loop-other-preserved
loop-other-preserved c = λ point there.
    let points = c.args.points.now in
    let others = take (length points - (c.args.i + 1)) (drop (c.args.i + 1) points) in
    left-next points c.args.i point c.args.keys.now others c.loop-other.other-index c.other-item.result c.loop-other.owned c.take_out.new.keys
    c.loop-other-test.true c.other-item.is (c.loop-other.invariant point there) c.in_ok-take_out.ensures

pub returns-then-not-is_below_or_same : goal.returns-then-not-is_below_or_same
returns-then-not-is_below_or_same c =
    let points = c.args.points.now in
    let i = c.args.i in
    let keys = c.args.keys.now in
    let point = c.index-points-i-in-loop-other.result in
    let is = c.index-points-i-in-loop-other.is in
    let place = c.loop-other.other-index in
    let other = c.other-item.result in
    let left = c.loop-other.owned in
    let behind = drop (i + 1) points in
    let others = take (length points - (i + 1)) behind in
    let all : others ≡ behind = take_all (length points - (i + 1)) behind (omega (arith, length-drop (i + 1) points)) in
    let within : place < length behind = subst (λ ps. place < length ps) all c.loop-other-test.true in
    let there : other ≡ get_or behind place other = c.other-item.is ∙ ap (λ ps. get_or ps place other) all in
    let so_far : IsLeft points i point keys (take place behind) left =
    subst (λ ps. IsLeft points i point keys (take place ps) left) all (c.loop-other.invariant point is) in
    let elsewhere = sym c.is_below_or_same.ensures.test ∙ c.if-not-is_below_or_same.true in
    left-owned points i point keys left c.requires (omega arith) is
    (left-rest points i point keys place other left c.requires (omega arith) is within there elsewhere so_far)

pub returns : goal.returns
returns c =
    let points = c.args.points.now in
    let i = c.args.i in
    let point = c.index-points-i.result in
    let behind = drop (i + 1) points in
    let others = take (length points - (i + 1)) behind in
    let all = take_all c.loop-other.other-index others (omega (arith, c.loop-other-test.false)) ∙ take_all (length points - (i + 1)) behind (omega (arith, length-drop (i + 1) points)) in
    left-owned points i point c.args.keys.now c.loop-other.owned c.requires (omega arith) c.index-points-i.is
    (subst (λ ps. IsLeft points i point c.args.keys.now ps c.loop-other.owned) all (c.loop-other.invariant point c.index-points-i.is))
