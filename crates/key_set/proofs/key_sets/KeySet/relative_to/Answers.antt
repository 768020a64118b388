-- Each turn sets one more key under the name that leads there.
use Rattle.std.proofs.Common.{ap, ap₂, sym, subst, ◌∙◌, filter_map}
use Rattle.key_set.specs.EntryView.{entry_of}
use Rattle.key_set.specs.Sound.{AreSound}
use Rattle.key_set.specs.WithAll.{with_keys}
use Rattle.key_set.specs.Whole.{as_way}
use Rattle.model_names.specs.Name.{Name}
use Rattle.model_maps.specs.Entry.{Entry}
use Rattle.key_set.proofs.WholeLemmas.{relative-next, sound-none}
use Rattle.key_set.proofs.key_sets.KeySet.relative_to.Goals as goal

pub loop-name-init : goal.loop-name-init
loop-name-init c = record {
  made = ap₂ (λ es keys. with_keys (filter_map (as_way c.args.point.now) es) keys) (c.into_iter-name-iterator.ensures.into_iter_gives ∙ c.iter-name-items.ensures) c.new-all.ensures;
  sound = subst (AreSound c.args.point.now) (sym c.new-all.ensures) (sound-none c.args.point.now);
}

pub loop-name-preserved : goal.loop-name-preserved
loop-name-preserved c =
    let key : Name × Entry = (c.in-Some.name.now, entry_of c.in-Some.entry.now) in
    let point = c.args.point.now in
    record {
      made =
          ap (with_keys (filter_map (as_way point) c.next.new.self)) c.in_ok-put_way.ensures.made
          ∙ relative-next point key c.next.new.self c.loop-name.all
          ∙ ap (λ es. with_keys (filter_map (as_way point) es) c.loop-name.all) (sym c.in-Some.ensures.steps)
          ∙ c.loop-name.invariant.made;
      sound = c.in_ok-put_way.ensures.sound c.loop-name.invariant.sound;
    }
