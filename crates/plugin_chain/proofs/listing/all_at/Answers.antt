use Rattle.std.proofs.Common.{[], sym, subst, ◌∙◌, arith}
use Rattle.std.specs.FinMap as finite
use Rattle.kdb_outside.specs.Faults.{HasRisen}
use Rattle.kdb_outside.proofs.Rises.{risen_since, risen_still}
use Rattle.key_set.specs.EntryView.{entry_of}
use Rattle.model_specified.specs.Violations.{is_within}
use Rattle.plugin_chain.proofs.WalkLemmas.{Reached, reached_first, reached_last, reached_next}
use Rattle.plugin_chain.proofs.listing.all_at.Goals as goal

pub loop-name-init : goal.loop-name-init
loop-name-init g c =
    let start = g.P.Patterns.refusals c.args.patterns.now in
    let all = finite.entries c.args.made.now in
    record {
      reached =
          subst (λ list. Reached (HasRisen start start) c.args.specs.now (is_within c.args.at.now) all c.into_iter-name-iterator.result list) (sym c.new-list.ensures.items)
          (subst (λ keys. Reached (HasRisen start start) c.args.specs.now (is_within c.args.at.now) all keys []) (sym (c.into_iter-name-iterator.ensures.into_iter_gives ∙ c.iter-name-items.ensures)) (reached_first (HasRisen start start) c.args.specs.now (is_within c.args.at.now) all));
      later = omega arith;
    }

pub loop-name-preserved : goal.loop-name-preserved
loop-name-preserved g c =
    let start = g.P.Patterns.refusals c.args.patterns.now in
    let before = g.P.Patterns.refusals c.loop-name.patterns in
    let after = g.P.Patterns.refusals c.check_if.new.patterns in
    let earlier = c.loop-name.invariant.later in
    let later = c.check_if.ensures.later in
    record {
      reached =
          reached_next (HasRisen start before) (HasRisen before after) (HasRisen start after) c.args.specs.now (is_within c.args.at.now) (finite.entries c.args.made.now)
          c.loop-name.name-iterator c.next.new.self (c.in-Some.name.now, entry_of c.in-Some.entry.now) c.in_ok-is_chosen.is_chosen c.loop-name.list.items c.check_if.new.list.items
          c.in-Some.ensures.steps c.in_ok-is_chosen.ensures
          (risen_still start before after earlier later) (risen_since start before after earlier)
          c.in_ok-check_if.ensures.ok c.loop-name.invariant.reached;
      later = omega (arith, earlier, later);
    }

pub returns-in_err-is_chosen-clause-later : goal.returns-in_err-is_chosen-clause-later
returns-in_err-is_chosen-clause-later g c = c.loop-name.invariant.later

pub returns-in_err-check_if-clause-later : goal.returns-in_err-check_if-clause-later
returns-in_err-check_if-clause-later g c = omega (arith, c.loop-name.invariant.later, c.check_if.ensures.later)

pub returns-clause-all : goal.returns-clause-all
returns-clause-all g c =
    reached_last _ c.args.specs.now (is_within c.args.at.now) (finite.entries c.args.made.now) c.loop-name.name-iterator c.loop-name.list.items c.in-None.ensures.steps.0 c.loop-name.invariant.reached

pub returns-clause-later : goal.returns-clause-later
returns-clause-later g c = c.loop-name.invariant.later
