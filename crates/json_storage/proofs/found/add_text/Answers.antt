use Rattle.std.proofs.Common.{◌≡◌, sym, ap, ◌∙◌, arith}
use Rattle.std.specs.FinMap as finite
use Rattle.key_set.specs.EntryView.{entry_of}
use Rattle.model_names.specs.Name.{Name}
use Rattle.model_maps.specs.Entry.{plain_entry}
use Rattle.json_storage.proofs.TextLemmas.{joins, cant}
use Rattle.json_storage.proofs.found.add_text.Goals as goal
use Rattle.json_storage.proofs.found.add_text.Goals.{then-len-gt-MOST_PARTS-via-then-len-gt-MOST_PARTS, then-len-gt-MOST_PARTS-via-else-len-gt-MOST_PARTS+then-text-gt-LONGEST_VALUE}

pub returns-then-len-gt-MOST_PARTS : goal.returns-then-len-gt-MOST_PARTS
returns-then-len-gt-MOST_PARTS c =
    let f = c.args.found.now in
    cant f f c.args.name.now c.args.text.now c.requires.sound c.requires.cascading (λ few short behind light.
    elim c.then-len-gt-MOST_PARTS.branch [
      | then-len-gt-MOST_PARTS-via-then-len-gt-MOST_PARTS w ↦ absurd (omega (arith, w.if-len-gt-MOST_PARTS.true, c.len.ensures.parts, few))
      | then-len-gt-MOST_PARTS-via-else-len-gt-MOST_PARTS+then-text-gt-LONGEST_VALUE w ↦ absurd (omega (arith, w.if-text-gt-LONGEST_VALUE.true, short))
    ])

pub returns-then-not-is_behind : goal.returns-then-not-is_behind
returns-then-not-is_behind c =
    let f = c.args.found.now in
    cant f f c.args.name.now c.args.text.now c.requires.sound c.requires.cascading (λ few short behind light. let clash = sym c.if-not-is_behind.true ∙ c.is_behind.ensures.1 behind in absurd cc)

pub returns : goal.returns
returns c =
    let f = c.args.found.now in
    let name = c.args.name.now in
    let entry = c.in_ok-append.ensures.ok in
    let plain : entry_of (record { value = c.in_ok-new.field-0; meta = c.new-2.result }) ≡ plain_entry c.args.text.now = λ i. record { value = c.in_ok-new.ensures i; meta = c.new-2.ensures i } in
    let same : c.append.new.self ≡ finite.insert f.keys name (plain_entry c.args.text.now) = entry ∙ ap (λ (n : Name). finite.insert f.keys n (entry_of (record { value = c.in_ok-new.field-0; meta = c.new-2.result }))) c.in_ok-copy.ensures ∙ ap (finite.insert f.keys name) plain in
    let weighs = c.weight_of.ensures in
    let sum = c.saturating_add-weight.ensures in
    joins f (record { keys = c.append.new.self; weight = c.saturating_add-weight.result }) name c.args.text.now c.requires.sound c.requires.cascading c.len.ensures.well_formed c.utf8.text
    (omega (arith, c.len.ensures.parts, c.if-len-gt-MOST_PARTS.false)) (omega (arith, c.if-text-gt-LONGEST_VALUE.false)) (c.is_behind.ensures.0 c.if-not-is_behind.false) same
    (omega (arith, weighs, sum, c.if-weight-gt-HEAVIEST_MAP.false)) (omega (arith, c.if-weight-gt-HEAVIEST_MAP.false))
