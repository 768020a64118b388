-- The walk ends at the first key that is not at or below the name.
use Rattle.std.proofs.Common.{◌≡◌, ◌+◌, ◌<◌, suc, length, sym, ◌∙◌, arith}
use Rattle.key_set.proofs.RangeLemmas.{below_to_end, inside_to_end, outside_to_end, inside_found, outside_found, inside_all, outside_all, below_more, to_come, one_more}
use Rattle.key_set.proofs.ranges.range_below.Goals as goal

pub loop-name-preserved : goal.loop-name-preserved
loop-name-preserved c =
    let keys = c.args.keys.now in
    let found = c.count_before-from.ensures in
    let here = c.loop-name in
    let reached = sym here.invariant.0 ∙ c.in-Some.ensures.steps in
    let more : here.to < length keys =
    one_more c.args.at.now keys found.sorted c.count_before-from.result here.to here.invariant.1 here.invariant.2 found.before found.behind here.invariant.3
    (c.in-Some.name.now, c.in-Some.field-0-1.now) c.next.new.self reached in
    let next : c.loop-name.to + 1 ≡ suc c.loop-name.to = omega arith in
    let order = c.loop-name.invariant.1 in (
      to_come c.args.at.now keys found.sorted c.count_before-from.result here.to here.invariant.1 here.invariant.2 found.before found.behind here.invariant.3
          (c.in-Some.name.now, c.in-Some.field-0-1.now) c.next.new.self reached (c.loop-name.to + 1) next,
      omega arith,
      omega arith,
      below_more c.args.at.now keys found.sorted c.count_before-from.result here.to here.invariant.1 here.invariant.2 found.before found.behind here.invariant.3
          (c.in-Some.name.now, c.in-Some.field-0-1.now) c.next.new.self reached (sym c.is_below_or_same.ensures.test ∙ c.if-not-is_below_or_same.false),
    )

pub overflow_add-to : goal.overflow_add-to
overflow_add-to c =
    let keys = c.args.keys.now in
    let found = c.count_before-from.ensures in
    let here = c.loop-name in
    let reached = sym here.invariant.0 ∙ c.in-Some.ensures.steps in
    let more : here.to < length keys =
    one_more c.args.at.now keys found.sorted c.count_before-from.result here.to here.invariant.1 here.invariant.2 found.before found.behind here.invariant.3
    (c.in-Some.name.now, c.in-Some.field-0-1.now) c.next.new.self reached in
    let fits = c.count_before-from.ensures.countable in
    omega arith

pub returns-then-not-is_below_or_same-clause-inside : goal.returns-then-not-is_below_or_same-clause-inside
returns-then-not-is_below_or_same-clause-inside c =
    let keys = c.args.keys.now in
    let found = c.count_before-from.ensures in
    let here = c.loop-name in
    let reached = sym here.invariant.0 ∙ c.in-Some.ensures.steps in
    inside_found c.args.at.now keys found.sorted c.count_before-from.result here.to here.invariant.1 here.invariant.2 found.before found.behind here.invariant.3
    (c.in-Some.name.now, c.in-Some.field-0-1.now) c.next.new.self reached
    (sym c.is_below_or_same.ensures.test ∙ c.if-not-is_below_or_same.true)

pub returns-then-not-is_below_or_same-clause-outside : goal.returns-then-not-is_below_or_same-clause-outside
returns-then-not-is_below_or_same-clause-outside c =
    let keys = c.args.keys.now in
    let found = c.count_before-from.ensures in
    let here = c.loop-name in
    let reached = sym here.invariant.0 ∙ c.in-Some.ensures.steps in
    outside_found c.args.at.now keys found.sorted c.count_before-from.result here.to here.invariant.1 here.invariant.2 found.before found.behind here.invariant.3
    (c.in-Some.name.now, c.in-Some.field-0-1.now) c.next.new.self reached
    (sym c.is_below_or_same.ensures.test ∙ c.if-not-is_below_or_same.true)

pub returns-clause-inside : goal.returns-clause-inside
returns-clause-inside c =
    let keys = c.args.keys.now in
    let found = c.count_before-from.ensures in
    let here = c.loop-name in
    inside_all c.args.at.now keys found.sorted c.count_before-from.result here.to here.invariant.1 here.invariant.2 found.before found.behind here.invariant.3
    (sym c.loop-name.invariant.0 ∙ c.in-None.ensures.steps.0)

pub returns-clause-outside : goal.returns-clause-outside
returns-clause-outside c =
    let keys = c.args.keys.now in
    let found = c.count_before-from.ensures in
    let here = c.loop-name in
    outside_all c.args.at.now keys found.sorted c.count_before-from.result here.to here.invariant.1 here.invariant.2 found.before found.behind here.invariant.3
    (sym c.loop-name.invariant.0 ∙ c.in-None.ensures.steps.0)

pub returns-then-is_last_below-clause-inside : goal.returns-then-is_last_below-clause-inside
returns-then-is_last_below-clause-inside c =
    let keys = c.args.keys.now in
    let found = c.count_before-from.ensures in
    let all = c.len.ensures.len in
    let below = below_to_end c.args.at.now keys found.sorted c.count_before-from.result found.bounds found.before found.behind (c.is_last_below.ensures.below c.if-is_last_below.true) in
    inside_to_end c.args.at.now keys found.sorted c.count_before-from.result c.len.result (let le = found.bounds in omega (arith, le, all)) (omega (arith, all)) found.before found.behind (λ k d le lt in_list. below k d le in_list) (omega (arith, all))

pub returns-then-is_last_below-clause-outside : goal.returns-then-is_last_below-clause-outside
returns-then-is_last_below-clause-outside c =
    let keys = c.args.keys.now in
    let found = c.count_before-from.ensures in
    let all = c.len.ensures.len in
    let below = below_to_end c.args.at.now keys found.sorted c.count_before-from.result found.bounds found.before found.behind (c.is_last_below.ensures.below c.if-is_last_below.true) in
    outside_to_end c.args.at.now keys found.sorted c.count_before-from.result c.len.result (let le = found.bounds in omega (arith, le, all)) (omega (arith, all)) found.before found.behind (λ k d le lt in_list. below k d le in_list) (omega (arith, all))
