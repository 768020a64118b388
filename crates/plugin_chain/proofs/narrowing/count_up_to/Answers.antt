-- The first one or the last tells all, or the closure tests how a key's part compares with the word.
use Rattle.std.proofs.Common.{refl, rules, sym, ◌∙◌}
use Rattle.std.specs.Ordering.{is_le}
use Rattle.std.proofs.lemmas.Fn.{always_returns_same}
use Rattle.plugin_chain.specs.Globs.{beside}
use Rattle.plugin_chain.proofs.RisingLemmas.{splits, splits_empty, splits_first, splits_last}
use Rattle.plugin_chain.proofs.narrowing.count_up_to.Goals as goal

pub returns : goal.returns
returns c =
    splits is_le refl refl c.args.depth c.args.word.now c.args.globs.now c.partition_point.result c.requires c.partition_point.ensures.bound
    (c.partition_point.ensures.partitioned (λ glob. is_le (beside c.args.depth c.args.word.now glob)) (always_returns_same _ _ _ (λ a r f called. search rules)))

pub returns-then-is_empty : goal.returns-then-is_empty
returns-then-is_empty c =
    splits_empty (λ glob. is_le (beside c.args.depth c.args.word.now glob)) c.args.globs.now (sym c.is_empty.ensures ∙ c.if-is_empty.true)

pub returns-then-not-is_up_to : goal.returns-then-not-is_up_to
returns-then-not-is_up_to c =
    splits_first is_le refl refl c.args.depth c.args.word.now c.args.globs.now c.index-globs-0.result c.requires (sym c.is_empty.ensures ∙ c.if-is_empty.false) c.index-globs-0.is (sym c.is_up_to.ensures ∙ c.if-not-is_up_to.true)

pub returns-then-is_up_to : goal.returns-then-is_up_to
returns-then-is_up_to c =
    let last = c.index-globs-globs.result in
    splits_last is_le refl refl c.args.depth c.args.word.now c.args.globs.now last c.requires (sym c.is_empty.ensures ∙ c.if-is_empty.false) c.index-globs-globs.is (sym c.is_up_to-2.ensures ∙ c.if-is_up_to.true)
