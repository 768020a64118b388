-- Each turn lays one more item over the metadata.
use Rattle.std.proofs.Common.{sym, ap, subst, ◌∙◌}
use Rattle.key_meta.specs.MetaView.{AreItems}
use Rattle.plugin_chain.proofs.LayingLemmas.{found_over, found_over-next, laid_over_all}
use Rattle.plugin_chain.proofs.laying.lay_over.Goals as goal

pub loop-name-init : goal.loop-name-init
loop-name-init c =
    let rest = c.into_iter-name-iterator.ensures.into_iter_gives ∙ c.iter-name-items.ensures.all in
    record {
      found = λ q. ap (λ es. found_over c.args.meta.now es q) rest;
      items = subst AreItems (sym rest) c.iter-name-items.ensures.items;
    }

pub add_missing-requires : goal.add_missing-requires
add_missing-requires c =
    let item = (subst AreItems c.in-Some.ensures.steps c.loop-name.invariant.items).0 in
    record { some = item.is_name.some; limit = item.is_name.limit }

pub loop-name-preserved : goal.loop-name-preserved
loop-name-preserved c =
    let rest = c.next.new.self in
    record {
      found = λ q.
          ap (λ m. found_over m rest q) c.in_ok-add_missing.ensures.ok
          ∙ found_over-next c.loop-name.meta c.in-Some.name.now c.in-Some.text.now rest q
          ∙ ap (λ es. found_over c.loop-name.meta es q) (sym c.in-Some.ensures.steps)
          ∙ c.loop-name.invariant.found q;
      items = (subst AreItems c.in-Some.ensures.steps c.loop-name.invariant.items).1;
    }

pub returns : goal.returns
returns c = record {
  ok = laid_over_all c.args.meta.now c.args.other.now c.loop-name.meta (λ q. ap (λ es. found_over c.loop-name.meta es q) (sym c.in-None.ensures.steps.0) ∙ c.loop-name.invariant.found q);
}
