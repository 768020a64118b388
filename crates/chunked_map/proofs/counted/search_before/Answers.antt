-- The last key of the chunk in the middle tells of the chunks up to it, or of those behind it; each comparison halves
-- what is left.
use Rattle.std.proofs.Common.{◌≡◌, ◌<◌, ◌≤◌, ◌+◌, ◌-◌, ◌/◌, [], suc, length, get_or, sym, ap, ◌∙◌, subst, arith}
use Rattle.general_words.proofs.Lists.{same_default}
use Rattle.chunked_map.specs.Chunks.{IsBeforeLast, IsSized}
use Rattle.chunked_map.proofs.JoinLemmas.{sized_at}
use Rattle.chunked_map.proofs.SearchLemmas.{home_late, next_before, late_here, home_tied, place_last}
use Rattle.chunked_map.proofs.CostLemmas.{none_yet, no_cost, halved, one_more_step, both_searches, first_search}
use Rattle.chunked_map.proofs.counted.search_before.Goals as goal

pub loop-low-init : goal.loop-low-init
loop-low-init g c = record {
  order = omega arith;
  within = omega (arith, c.requires.some);
  before = tt;
  late = c.requires.late;
  since = omega arith;
  left = λ some. none_yet c.args.steps.now (length c.args.chunks.now - 1);
  cost = no_cost c.args.steps.now (length c.args.chunks.now - 1);
}

pub loop-low-preserved-in-Less : goal.loop-low-preserved-in-Less
loop-low-preserved-in-Less g c =
    let cs = c.args.chunks.now in
    let inv = c.loop-low.invariant in
    let at = c.loop-low.low + (c.loop-low.high - c.loop-low.low) / 2 in
    let lt : at < length cs = omega (arith, inv.within, c.loop-low-test.true) in
    let next : at + 1 ≡ suc at = omega arith in
    let one : c.last_counted.new.steps - c.args.steps.now ≤ suc (c.loop-low.steps - c.args.steps.now) = omega (arith, c.last_counted.ensures.step, inv.since) in
    let so_far = inv.left c.loop-low-test.true in
    record {
      order = omega (arith, c.loop-low-test.true);
      within = inv.within;
      before = next_before g.K.Ord.cmp g.met.K.Ord.total c.args.key.now cs c.requires.chunks at lt c.index-chunks-middle.result c.index-chunks-middle.is c.last_counted.result c.last_counted.ensures.order c.in-Less.is (at + 1) next;
      late = inv.late;
      since = omega (arith, c.last_counted.ensures.step, inv.since);
      left = λ some. halved (c.loop-low.steps - c.args.steps.now) (c.last_counted.new.steps - c.args.steps.now) (length cs - 1) (c.loop-low.high - c.loop-low.low) (c.loop-low.high - (at + 1)) one so_far (omega (arith, c.loop-low-test.true));
      cost = one_more_step (c.loop-low.steps - c.args.steps.now) (c.last_counted.new.steps - c.args.steps.now) (length cs - 1) (c.loop-low.high - c.loop-low.low) one (omega (arith, c.loop-low-test.true)) so_far;
    }

pub loop-low-preserved : goal.loop-low-preserved
loop-low-preserved g c =
    let cs = c.args.chunks.now in
    let inv = c.loop-low.invariant in
    let at = c.loop-low.low + (c.loop-low.high - c.loop-low.low) / 2 in
    let lt : at < length cs = omega (arith, inv.within, c.loop-low-test.true) in
    let one : c.last_counted.new.steps - c.args.steps.now ≤ suc (c.loop-low.steps - c.args.steps.now) = omega (arith, c.last_counted.ensures.step, inv.since) in
    let so_far = inv.left c.loop-low-test.true in
    record {
      order = omega (arith, c.loop-low-test.true);
      within = lt;
      before = inv.before;
      late = late_here g.K.Ord.cmp g.met.K.Ord.total c.args.key.now cs c.requires.chunks at lt c.index-chunks-middle.result c.index-chunks-middle.is c.last_counted.result c.last_counted.ensures.order c.in-Greater.is;
      since = omega (arith, c.last_counted.ensures.step, inv.since);
      left = λ some. halved (c.loop-low.steps - c.args.steps.now) (c.last_counted.new.steps - c.args.steps.now) (length cs - 1) (c.loop-low.high - c.loop-low.low) (at - c.loop-low.low) one so_far (omega (arith, c.loop-low-test.true));
      cost = one_more_step (c.loop-low.steps - c.args.steps.now) (c.last_counted.new.steps - c.args.steps.now) (length cs - 1) (c.loop-low.high - c.loop-low.low) one (omega (arith, c.loop-low-test.true)) so_far;
    }

pub returns-in-Equal-clause-home : goal.returns-in-Equal-clause-home
returns-in-Equal-clause-home g c =
    let cs = c.args.chunks.now in
    let at = c.loop-low.low + (c.loop-low.high - c.loop-low.low) / 2 in
    let lt : at < length cs = omega (arith, c.loop-low.invariant.within, c.loop-low-test.true) in
    home_tied g.K.Ord.cmp g.met.K.Ord.total c.args.key.now cs c.requires.chunks at lt c.index-chunks-middle.result c.index-chunks-middle.is c.last_counted.result c.last_counted.ensures.order c.in-Equal.is

pub returns-in-Equal-clause-there : goal.returns-in-Equal-clause-there
returns-in-Equal-clause-there g c =
    let cs = c.args.chunks.now in
    let at = c.loop-low.low + (c.loop-low.high - c.loop-low.low) / 2 in
    let lt : at < length cs = omega (arith, c.loop-low.invariant.within, c.loop-low-test.true) in
    let same = c.index-chunks-middle-in-Equal.is ∙ same_default cs at c.index-chunks-middle-in-Equal.result c.index-chunks-middle.result lt ∙ sym c.index-chunks-middle.is in
    place_last g.K.Ord.cmp g.met.K.Ord.total c.args.key.now cs c.requires.chunks at lt c.index-chunks-middle.result c.index-chunks-middle.is c.last_counted.result c.last_counted.ensures.order c.in-Equal.is
    (c.len.result - 1) (ap (λ n. n - 1) (c.len.ensures.len ∙ ap length same))

pub returns-in-Equal-clause-cost : goal.returns-in-Equal-clause-cost
returns-in-Equal-clause-cost g c =
    let inv = c.loop-low.invariant in
    let one : c.last_counted.new.steps - c.args.steps.now ≤ suc (c.loop-low.steps - c.args.steps.now) = omega (arith, c.last_counted.ensures.step, inv.since) in
    first_search (c.last_counted.new.steps - c.args.steps.now) (length c.args.chunks.now)
    (one_more_step (c.loop-low.steps - c.args.steps.now) (c.last_counted.new.steps - c.args.steps.now) (length c.args.chunks.now - 1) (c.loop-low.high - c.loop-low.low) one (omega (arith, c.loop-low-test.true)) (inv.left c.loop-low-test.true))

pub returns-clause-home : goal.returns-clause-home
returns-clause-home g c =
    let cs = c.args.chunks.now in
    let inv = c.loop-low.invariant in
    let lt : c.loop-low.low < length cs = omega (arith, inv.order, inv.within) in
    let met : c.loop-low.high ≡ c.loop-low.low = omega (arith, inv.order, c.loop-low-test.false) in
    home_late g.K.Ord.cmp g.met.K.Ord.total c.args.key.now cs c.requires.chunks c.loop-low.low lt (subst (λ at. IsBeforeLast g.K.Ord.cmp c.args.key.now (get_or cs at [])) met inv.late) inv.before

pub returns-clause-cost : goal.returns-clause-cost
returns-clause-cost g c =
    let cs = c.args.chunks.now in
    let inv = c.loop-low.invariant in
    let lt : c.loop-low.low < length cs = omega (arith, inv.order, inv.within) in
    let here = c.entries.ensures.all ∙ c.index-chunks-low.is in
    let sized = subst IsSized (sym here) (sized_at cs c.loop-low.low c.index-chunks-low.result lt c.requires.chunks.sizes) in
    both_searches (c.loop-low.steps - c.args.steps.now) (c.place_counted.new.steps - c.loop-low.steps) (c.place_counted.new.steps - c.args.steps.now) (length cs) (length c.entries.result.now)
    (omega (arith, inv.since, c.place_counted.ensures.more)) inv.cost c.place_counted.ensures.cost sized.some sized.few
