use Rattle.std.proofs.Common.{sym, subst, ◌∙◌}
use Rattle.key_set.specs.EntryView.{entry_of}
use Rattle.model_specified.specs.Specified.{specified_entry}
use Rattle.plugin_chain.proofs.SetLemmas.{StandsSo, stands_first, stands_last, stands_next_of}
use Rattle.plugin_chain.proofs.specifying.specify_each.Goals as goal

pub loop-name-init : goal.loop-name-init
loop-name-init c =
    let f = specified_entry c.args.specs.now in
    subst (λ set. StandsSo f c.into_iter-name-iterator.result set c.args.made.now) (sym c.in_ok-set.ensures)
    (subst (λ keys. StandsSo f keys c.args.made.now c.args.made.now) (sym (c.into_iter-name-iterator.ensures.into_iter_gives ∙ c.iter-name-items.ensures)) (stands_first f c.args.made.now))

pub loop-name-preserved : goal.loop-name-preserved
loop-name-preserved c =
    stands_next_of entry_of (specified_entry c.args.specs.now) c.loop-name.name-iterator c.next.new.self (c.in-Some.name.now, entry_of c.in-Some.entry.now) c.loop-name.set c.args.made.now c.set_changed.new.set c.in_ok-changed.changed
    c.in-Some.ensures.steps c.in_ok-changed.ensures c.in_ok-set_changed.ensures.ok c.loop-name.invariant

pub returns : goal.returns
returns c =
    stands_last (specified_entry c.args.specs.now) c.loop-name.name-iterator c.loop-name.set c.args.made.now c.in-None.ensures.steps.0 c.loop-name.invariant
