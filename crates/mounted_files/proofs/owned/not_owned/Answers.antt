-- Each turn looks at one more key.
use Rattle.std.proofs.Common.{not, length, ap, ap₂, sym, ◌∙◌}
use Rattle.std.specs.FinMap as map
use Rattle.key_set.specs.EntryView.{entry_of}
use Rattle.model_names.specs.Name.{Name}
use Rattle.model_maps.specs.Entry.{Entry}
use Rattle.model_maps.specs.KeyMap.{KeyMap}
use Rattle.set_split.specs.Involved.{owns}
use Rattle.set_split.proofs.PassingLemmas.{with_passing, passing-all, passing-same}
use Rattle.mounted_files.proofs.MapLemmas.{none-fails}
use Rattle.mounted_files.proofs.owned.not_owned.Goals as goal

pub returns-then-len : goal.returns-then-len
returns-then-len c =
    let keys = c.args.keys.now in
    let is_owned = owns c.args.points.now c.args.i in
    c.new.ensures
    ∙ none-fails keys is_owned (ap (λ (k : KeyMap). length (map.entries k)) (sym c.requires.visible) ∙ sym c.len.ensures ∙ c.if-len.true ∙ c.len-2.ensures)

pub loop-name-init : goal.loop-name-init
loop-name-init c =
    let is_other = λ (name : Name). not (owns c.args.points.now c.args.i name) in
    ap₂ (with_passing is_other) (c.into_iter-name-iterator.ensures.into_iter_gives ∙ c.iter-name-items.ensures) c.new-shadow.ensures
    ∙ passing-all is_other c.args.keys.now

pub loop-name-preserved : goal.loop-name-preserved
loop-name-preserved c =
    let key : Name × Entry = (c.in-Some.name.now, entry_of c.in-Some.entry.now) in
    let is_other = λ (name : Name). not (owns c.args.points.now c.args.i name) in
    passing-same is_other key c.next.new.self c.loop-name.shadow (ap not (sym c.owns.ensures ∙ c.if-not-owns.false))
    ∙ ap (λ es. with_passing is_other es c.loop-name.shadow) (sym c.in-Some.ensures.steps)
    ∙ c.loop-name.invariant
