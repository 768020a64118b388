use Rattle.std.proofs.Common.{sym, ◌∙◌}
use Rattle.plugin_chain.proofs.NarrowLemmas.{high_order, narrowed_high, narrowed_item, narrowed_low}
use Rattle.plugin_chain.proofs.narrowing.narrow.Goals as goal

pub returns-then-begins_as_item : goal.returns-then-begins_as_item
returns-then-begins_as_item c =
    narrowed_item c.args.depth c.args.part.now c.args.globs.now c.with_words.result.first.now c.with_words.result.second.now c.with_words.result.third.now c.with_words.ensures

pub returns-then-is_at_most : goal.returns-then-is_at_most
returns-then-is_at_most c =
    let found = c.with_words-then-is_at_most.result in
    narrowed_low c.args.depth c.args.part.now c.args.globs.now found.first.now found.second.now found.third.now (sym c.begins_as_item.ensures ∙ c.if-begins_as_item.false) c.with_words-then-is_at_most.ensures

pub with_words-requires-2-clause-words : goal.with_words-requires-2-clause-words
with_words-requires-2-clause-words c = high_order c.args.part.now (sym c.is_at_most.ensures ∙ c.if-is_at_most.false)

pub returns : goal.returns
returns c =
    let found = c.with_words-2.result in
    narrowed_high c.args.depth c.args.part.now c.args.globs.now found.first.now found.second.now found.third.now (sym c.begins_as_item.ensures ∙ c.if-begins_as_item.false) c.with_words-2.ensures
