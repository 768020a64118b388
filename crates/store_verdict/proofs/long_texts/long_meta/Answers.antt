-- The first text that is too long is that of the first item that has one.
use Rattle.std.proofs.Common.{ℕ, List, ap, sym, ◌∙◌}
use Rattle.std.specs.FinMap as map
use Rattle.general_words.specs.Searches.{first_some}
use Rattle.general_words.proofs.Searches.{first_some-map, first_some-none, first_some-some}
use Rattle.mounted_files.specs.Setting.{if_long}
use Rattle.store_verdict.proofs.long_texts.long_meta.Goals as goal

abbrev Item : Type 0
Item = List ℕ × List ℕ

pub loop-text-init : goal.loop-text-init
loop-text-init c =
    ap (first_some (λ (x : Item). if_long x.1)) (c.into_iter-text-iterator.ensures.into_iter_gives ∙ c.iter-text-items.ensures.all)

pub returns-in-Some-if_long : goal.returns-in-Some-if_long
returns-in-Some-if_long c =
    let item : Item = (c.in-Some.field-0-0.now, c.in-Some.text.now) in
    let first = λ (x : Item). if_long x.1 in
    sym (first_some-map if_long (λ (x : Item). x.1) (map.entries c.args.meta.now)
    ∙ sym c.loop-text.invariant
    ∙ ap (first_some first) c.in-Some.ensures.steps
    ∙ first_some-some first item c.next.new.self c.in-Some-if_long.bytes (sym c.if_long.ensures ∙ c.in-Some-if_long.is))

pub loop-text-preserved : goal.loop-text-preserved
loop-text-preserved c =
    let item : Item = (c.in-Some.field-0-0.now, c.in-Some.text.now) in
    let first = λ (x : Item). if_long x.1 in
    sym (first_some-none first item c.next.new.self (sym c.if_long.ensures ∙ c.in_default.is))
    ∙ ap (first_some first) (sym c.in-Some.ensures.steps)
    ∙ c.loop-text.invariant

pub returns : goal.returns
returns c =
    sym (first_some-map if_long (λ (x : Item). x.1) (map.entries c.args.meta.now)
    ∙ sym c.loop-text.invariant
    ∙ ap (first_some (λ (x : Item). if_long x.1)) c.in-None.ensures.steps.0)
