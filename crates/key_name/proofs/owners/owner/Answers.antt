-- The points behind the one that is found are neither the name nor above it, so it is the longest.
use Rattle.std.proofs.Common.{◌-◌, sym, ◌∙◌, arith}
use Rattle.key_name.proofs.OwnerLemmas.{owner_of-last, owner_of-none}
use Rattle.key_name.proofs.owners.owner.Goals as goal

pub returns-then-is_below_or_same : goal.returns-then-is_below_or_same
returns-then-is_below_or_same c =
    let point = c.index-points-i.result in
    owner_of-last c.args.points.now c.args.name.now c.requires (c.loop-i.i - 1) point (omega (arith, c.loop-i.invariant.within)) c.index-points-i.is (sym c.is_below_or_same.ensures.test ∙ c.if-is_below_or_same.true) (λ k d le lt. c.loop-i.invariant.none_behind k d (omega arith) lt)

pub returns : goal.returns
returns c =
    sym (owner_of-none c.args.points.now c.args.name.now (λ k d lt. c.loop-i.invariant.none_behind k d (omega arith) lt))
