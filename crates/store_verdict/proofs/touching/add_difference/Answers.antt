-- Each turn passes the first name that is still to come, and at the end there is none.
use Rattle.std.proofs.Common.{T, ap, ap₂, subst, sym, ◌∙◌}
use Rattle.std.specs.FinMap as map
use Rattle.std.specs.FinMap.{is_sorted}
use Rattle.std.specs.Option.{option_or}
use Rattle.model_names.specs.Order.{name_cmp}
use Rattle.store_verdict.specs.Walking.{change_between}
use Rattle.store_verdict.proofs.WalkingLemmas.{all_to_come}
use Rattle.store_verdict.proofs.touching.add_difference.Goals as goal

pub loop-had-init : goal.loop-had-init
loop-had-init c = record {
  added = λ q. ap₂ (λ xs ys. option_or (change_between xs ys q) (map.get c.args.changes.now q)) c.new-had.ensures c.new-new.ensures ∙ ap (λ o. option_or o (map.get c.args.changes.now q)) (all_to_come c.args.before.now c.args.wanted.now q);
  sorted = subst (λ es. T (is_sorted name_cmp es)) (sym c.new-had.ensures) (map.entries_sorted c.args.before.now);
  wanted_sorted = subst (λ es. T (is_sorted name_cmp es)) (sym c.new-new.ensures) (map.entries_sorted c.args.wanted.now);
}

pub loop-had-preserved : goal.loop-had-preserved
loop-had-preserved c = record {
  added = λ q. c.in_ok-add_first.ensures.added q ∙ c.loop-had.invariant.added q;
  sorted = c.in_ok-add_first.ensures.sorted;
  wanted_sorted = c.in_ok-add_first.ensures.wanted_sorted;
}
