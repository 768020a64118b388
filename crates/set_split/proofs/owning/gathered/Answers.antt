-- Each turn looks at one more key.
use Rattle.std.proofs.Common.{ap, ap₂, sym, ◌∙◌}
use Rattle.key_set.specs.EntryView.{entry_of}
use Rattle.model_names.specs.Name.{Name}
use Rattle.model_maps.specs.Entry.{Entry}
use Rattle.set_split.specs.Involved.{owns}
use Rattle.set_split.proofs.PassingLemmas.{with_passing, passing-all, passing-same}
use Rattle.set_split.proofs.owning.gathered.Goals as goal

pub loop-name-init : goal.loop-name-init
loop-name-init c =
    let is_owned = owns c.args.points.now c.args.i in
    ap₂ (with_passing is_owned) (c.into_iter-name-iterator.ensures.into_iter_gives ∙ c.iter-name-items.ensures) c.new-owned.ensures
    ∙ passing-all is_owned c.args.keys.now

pub loop-name-preserved : goal.loop-name-preserved
loop-name-preserved c =
    let key : Name × Entry = (c.in-Some.name.now, entry_of c.in-Some.entry.now) in
    let is_owned = owns c.args.points.now c.args.i in
    passing-same is_owned key c.next.new.self c.loop-name.owned (sym c.owns.ensures ∙ c.if-owns.false)
    ∙ ap (λ es. with_passing is_owned es c.loop-name.owned) (sym c.in-Some.ensures.steps)
    ∙ c.loop-name.invariant
