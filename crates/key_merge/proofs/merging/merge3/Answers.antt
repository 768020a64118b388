-- The walk begins over whole sets, goes on by one name, and ends where no set has one.
use Rattle.std.proofs.Common.{true, false, ◌≡◌, length, List, refl, sym, ap, subst, ◌∙◌}
use Rattle.std.specs.Prelude.{◌==◌}
use Rattle.std.specs.Option.{option_map}
use Rattle.model_names.specs.Name.{Name}
use Rattle.key_merge.specs.Merging.{AreConflicts}
use Rattle.key_merge.proofs.StandsLemmas.{starts-as, went-as, conflicts-end}
use Rattle.key_merge.proofs.merging.merge3.Goals as goal

pub loop-name-init : goal.loop-name-init
loop-name-init c =
    (refl, starts-as c.args.strategy c.args.base.now c.args.our.now c.args.their.now _ _ _ _ _ c.new-walk.ensures.base c.new-walk.ensures.our c.new-walk.ensures.their c.in_ok-copy.ensures c.new.ensures.items)

pub loop-name-smaller : goal.loop-name-smaller
loop-name-smaller c =
    let step = went-as c.args.strategy c.args.base.now c.args.our.now c.args.their.now c.loop-name.walk.base c.loop-name.walk.our c.loop-name.walk.their _ _ _ c.loop-name.merging.keys _ c.loop-name.merging.conflicts.items _ c.in-Some.name.now _ _ _ c.loop-name.merging.strategy
    c.loop-name.invariant.0 c.loop-name.invariant.1 (sym c.name.ensures ∙ ap (option_map (λ name. name.now)) c.in-Some.is)
    c.take-entries.ensures.base_left c.take-entries.ensures.our_left c.take-entries.ensures.their_left c.take-entries.ensures.base c.take-entries.ensures.our c.take-entries.ensures.their
    c.in_ok-add.ensures.keys c.in_ok-add.ensures.names in
    step.1

pub loop-name-preserved : goal.loop-name-preserved
loop-name-preserved c =
    let step = went-as c.args.strategy c.args.base.now c.args.our.now c.args.their.now c.loop-name.walk.base c.loop-name.walk.our c.loop-name.walk.their _ _ _ c.loop-name.merging.keys _ c.loop-name.merging.conflicts.items _ c.in-Some.name.now _ _ _ c.loop-name.merging.strategy
    c.loop-name.invariant.0 c.loop-name.invariant.1 (sym c.name.ensures ∙ ap (option_map (λ name. name.now)) c.in-Some.is)
    c.take-entries.ensures.base_left c.take-entries.ensures.our_left c.take-entries.ensures.their_left c.take-entries.ensures.base c.take-entries.ensures.our c.take-entries.ensures.their
    c.in_ok-add.ensures.keys c.in_ok-add.ensures.names in
    (c.add.ensures.strategy ∙ c.loop-name.invariant.0, step.0)

pub returns-else-is_empty-clause-conflicts : goal.returns-else-is_empty-clause-conflicts
returns-else-is_empty-clause-conflicts c = λ _.
    let is : c.from_vec.result ≡ c.loop-name.merging.conflicts.items = c.from_vec.ensures in
    let end = conflicts-end c.args.strategy c.args.base.now c.args.our.now c.args.their.now c.loop-name.walk.base c.loop-name.walk.our c.loop-name.walk.their c.loop-name.merging.keys c.loop-name.merging.conflicts.items
    c.loop-name.invariant.1 (sym c.name.ensures ∙ ap (option_map (λ name. name.now)) c.in_default.is) (λ e. let clash : true ≡ false = sym (c.is_empty.ensures ∙ ap (λ (ns : List Name). length ns == 0) (c.as_slice.ensures.value ∙ e)) ∙ c.if-is_empty.false in absurd cc) in
    record {
      names = c.from_vec.result;
      is = refl;
      abort = end.0;
      conflicts = subst (AreConflicts c.args.base.now c.args.our.now c.args.their.now) (sym is) end.1;
    }
