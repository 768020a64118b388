-- The key in the middle tells of those before it, or of those behind it; each comparison halves what is left.
use Rattle.std.proofs.Common.{◌≡◌, ◌<◌, ◌≤◌, ◌+◌, ◌-◌, ◌/◌, suc, length, get_or, sym, ap, ◌∙◌, arith}
use Rattle.std.specs.declared.cmp.Ordering.TheVariants.{Less, Equal, Greater}
use Rattle.general_words.proofs.Lists.{same_default}
use Rattle.chunked_map.proofs.CostLemmas.{none_yet, no_cost, halved, one_more_step, less_up_to, greater_from}
use Rattle.chunked_map.proofs.counted.place_counted.Goals as goal

pub loop-low-init : goal.loop-low-init
loop-low-init g c = record {
  order = omega arith;
  within = omega (arith, c.requires.some);
  before = λ k d lt. absurd (omega (arith, lt));
  after = λ k d le lt. let last : k ≡ length c.args.entries.now - 1 = omega (arith, le, lt) in ap (λ n. g.K.Ord.cmp (get_or c.args.entries.now n d).0 c.args.key.now) last ∙ c.requires.late.late d;
  since = omega arith;
  left = λ some. none_yet c.args.steps.now (length c.args.entries.now - 1);
  cost = no_cost c.args.steps.now (length c.args.entries.now - 1);
}

pub loop-low-preserved-in-Less : goal.loop-low-preserved-in-Less
loop-low-preserved-in-Less g c =
    let R = g.K.Ord.cmp in
    let es = c.args.entries.now in
    let inv = c.loop-low.invariant in
    let at = c.loop-low.low + (c.loop-low.high - c.loop-low.low) / 2 in
    let lt : at < length es = omega (arith, inv.within, c.loop-low-test.true) in
    let is : R (get_or es at c.index-entries-middle.result).0 c.args.key.now ≡ Less = sym c.compare_counted.ensures.order ∙ c.in-Less.is in
    let one : c.compare_counted.new.steps - c.args.steps.now ≤ suc (c.loop-low.steps - c.args.steps.now) = omega (arith, c.compare_counted.ensures.step, inv.since) in
    let so_far = inv.left c.loop-low-test.true in
    record {
      order = omega (arith, c.loop-low-test.true);
      within = inv.within;
      before = λ k d early. less_up_to R g.met.K.Ord.total c.args.key.now es at k c.index-entries-middle.result d c.requires.sorted lt (omega (arith, early)) is;
      after = inv.after;
      since = omega (arith, c.compare_counted.ensures.step, inv.since);
      left = λ some. halved (c.loop-low.steps - c.args.steps.now) (c.compare_counted.new.steps - c.args.steps.now) (length es - 1) (c.loop-low.high - c.loop-low.low) (c.loop-low.high - (at + 1)) one so_far (omega (arith, c.loop-low-test.true));
      cost = one_more_step (c.loop-low.steps - c.args.steps.now) (c.compare_counted.new.steps - c.args.steps.now) (length es - 1) (c.loop-low.high - c.loop-low.low) one (omega (arith, c.loop-low-test.true)) so_far;
    }

pub loop-low-preserved : goal.loop-low-preserved
loop-low-preserved g c =
    let R = g.K.Ord.cmp in
    let es = c.args.entries.now in
    let inv = c.loop-low.invariant in
    let at = c.loop-low.low + (c.loop-low.high - c.loop-low.low) / 2 in
    let is : R (get_or es at c.index-entries-middle.result).0 c.args.key.now ≡ Greater = sym c.compare_counted.ensures.order ∙ c.in-Greater.is in
    let one : c.compare_counted.new.steps - c.args.steps.now ≤ suc (c.loop-low.steps - c.args.steps.now) = omega (arith, c.compare_counted.ensures.step, inv.since) in
    let so_far = inv.left c.loop-low-test.true in
    record {
      order = omega (arith, c.loop-low-test.true);
      within = omega (arith, inv.within, c.loop-low-test.true);
      before = inv.before;
      after = λ k d late lt. greater_from R g.met.K.Ord.total c.args.key.now es at k c.index-entries-middle.result d c.requires.sorted lt late is;
      since = omega (arith, c.compare_counted.ensures.step, inv.since);
      left = λ some. halved (c.loop-low.steps - c.args.steps.now) (c.compare_counted.new.steps - c.args.steps.now) (length es - 1) (c.loop-low.high - c.loop-low.low) (at - c.loop-low.low) one so_far (omega (arith, c.loop-low-test.true));
      cost = one_more_step (c.loop-low.steps - c.args.steps.now) (c.compare_counted.new.steps - c.args.steps.now) (length es - 1) (c.loop-low.high - c.loop-low.low) one (omega (arith, c.loop-low-test.true)) so_far;
    }

pub returns-in-Equal-clause-there : goal.returns-in-Equal-clause-there
returns-in-Equal-clause-there g c =
    let R = g.K.Ord.cmp in
    let es = c.args.entries.now in
    let at = c.loop-low.low + (c.loop-low.high - c.loop-low.low) / 2 in
    let lt : at < length es = omega (arith, c.loop-low.invariant.within, c.loop-low-test.true) in
    let is : R (get_or es at c.index-entries-middle.result).0 c.args.key.now ≡ Equal = sym c.compare_counted.ensures.order ∙ c.in-Equal.is in
    record {
      in_range = lt;
      tied = λ d. ap (λ e. R e.0 c.args.key.now) (same_default es at d c.index-entries-middle.result lt) ∙ is;
    }

pub returns-in-Equal-clause-more : goal.returns-in-Equal-clause-more
returns-in-Equal-clause-more g c = omega (arith, c.compare_counted.ensures.step, c.loop-low.invariant.since)

pub returns-in-Equal-clause-cost : goal.returns-in-Equal-clause-cost
returns-in-Equal-clause-cost g c =
    let inv = c.loop-low.invariant in
    let one : c.compare_counted.new.steps - c.args.steps.now ≤ suc (c.loop-low.steps - c.args.steps.now) = omega (arith, c.compare_counted.ensures.step, inv.since) in
    one_more_step (c.loop-low.steps - c.args.steps.now) (c.compare_counted.new.steps - c.args.steps.now) (length c.args.entries.now - 1) (c.loop-low.high - c.loop-low.low) one (omega (arith, c.loop-low-test.true)) (inv.left c.loop-low-test.true)

pub returns-clause-missing : goal.returns-clause-missing
returns-clause-missing g c =
    let inv = c.loop-low.invariant in
    record {
      in_range = omega (arith, inv.order, inv.within);
      before = inv.before;
      after = λ k d le lt. inv.after k d (omega (arith, le, c.loop-low-test.false, inv.order)) lt;
    }
