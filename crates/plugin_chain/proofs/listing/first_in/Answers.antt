use Rattle.std.proofs.Common.{[], sym, subst, ◌∙◌, arith}
use Rattle.std.specs.FinMap as finite
use Rattle.general_words.proofs.Lists.{no_first}
use Rattle.kdb_outside.specs.Faults.{HasRisen}
use Rattle.kdb_outside.proofs.Rises.{risen_since, risen_still}
use Rattle.key_set.specs.EntryView.{entry_of}
use Rattle.model_specified.specs.Violations.{is_owned}
use Rattle.plugin_chain.proofs.WalkLemmas.{Reached, reached_first, reached_found, reached_last, reached_next_from}
use Rattle.plugin_chain.proofs.listing.first_in.Goals as goal

pub loop-name-init : goal.loop-name-init
loop-name-init g c =
    let start = g.P.Patterns.refusals c.args.patterns.now in
    let all = finite.entries c.args.made.now in
    record {
      reached = subst (λ keys. Reached (HasRisen start start) c.args.specs.now (is_owned c.args.points.now c.args.touched.now) all keys []) (sym (c.into_iter-name-iterator.ensures.into_iter_gives ∙ c.iter-name-items.ensures)) (reached_first (HasRisen start start) c.args.specs.now (is_owned c.args.points.now c.args.touched.now) all);
      later = omega arith;
    }

pub returns-in_err-check_if-clause-later : goal.returns-in_err-check_if-clause-later
returns-in_err-check_if-clause-later g c = omega (arith, c.loop-name.invariant.later, c.check_if.ensures.later)

pub returns-in-Some-first_of-clause-later : goal.returns-in-Some-first_of-clause-later
returns-in-Some-first_of-clause-later g c = omega (arith, c.loop-name.invariant.later, c.check_if.ensures.later)

pub returns-in-Some-first_of-clause-first : goal.returns-in-Some-first_of-clause-first
returns-in-Some-first_of-clause-first g c =
    let start = g.P.Patterns.refusals c.args.patterns.now in
    let before = g.P.Patterns.refusals c.loop-name.patterns in
    let after = g.P.Patterns.refusals c.check_if.new.patterns in
    let earlier = c.loop-name.invariant.later in
    let later = c.check_if.ensures.later in
    reached_found (HasRisen start after) c.args.specs.now (is_owned c.args.points.now c.args.touched.now) (finite.entries c.args.made.now) c.next.new.self c.check_if.new.list.items c.in-Some-first_of.first
    (sym c.in-Some-first_of.is ∙ c.first_of.ensures)
    (reached_next_from (HasRisen start before) (HasRisen before after) (HasRisen start after) c.args.specs.now (is_owned c.args.points.now c.args.touched.now) (finite.entries c.args.made.now)
    c.loop-name.name-iterator c.next.new.self (c.in-Some.name.now, entry_of c.in-Some.entry.now) c.is_touched-is_chosen.result c.new-own.result.items c.check_if.new.list.items
    c.new-own.ensures.items c.in-Some.ensures.steps c.is_touched-is_chosen.ensures
    (risen_still start before after earlier later) (risen_since start before after earlier)
    c.in_ok-check_if.ensures.ok c.loop-name.invariant.reached)

pub loop-name-preserved : goal.loop-name-preserved
loop-name-preserved g c =
    let start = g.P.Patterns.refusals c.args.patterns.now in
    let before = g.P.Patterns.refusals c.loop-name.patterns in
    let after = g.P.Patterns.refusals c.check_if.new.patterns in
    let earlier = c.loop-name.invariant.later in
    let later = c.check_if.ensures.later in
    record {
      reached =
          subst (λ list. Reached (HasRisen start after) c.args.specs.now (is_owned c.args.points.now c.args.touched.now) (finite.entries c.args.made.now) c.next.new.self list)
          (no_first c.check_if.new.list.items (sym c.in_default.is ∙ c.first_of.ensures))
          (reached_next_from (HasRisen start before) (HasRisen before after) (HasRisen start after) c.args.specs.now (is_owned c.args.points.now c.args.touched.now) (finite.entries c.args.made.now)
          c.loop-name.name-iterator c.next.new.self (c.in-Some.name.now, entry_of c.in-Some.entry.now) c.is_touched-is_chosen.result c.new-own.result.items c.check_if.new.list.items
          c.new-own.ensures.items c.in-Some.ensures.steps c.is_touched-is_chosen.ensures
          (risen_still start before after earlier later) (risen_since start before after earlier)
          c.in_ok-check_if.ensures.ok c.loop-name.invariant.reached);
      later = omega (arith, earlier, later);
    }

pub returns-clause-first : goal.returns-clause-first
returns-clause-first g c =
    reached_last _ c.args.specs.now (is_owned c.args.points.now c.args.touched.now) (finite.entries c.args.made.now) c.loop-name.name-iterator [] c.in-None.ensures.steps.0 c.loop-name.invariant.reached

pub returns-clause-later : goal.returns-clause-later
returns-clause-later g c = c.loop-name.invariant.later
