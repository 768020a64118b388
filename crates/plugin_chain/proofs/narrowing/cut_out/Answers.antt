use Rattle.plugin_chain.proofs.RisingLemmas.{cut_is, rising_rest}
use Rattle.plugin_chain.proofs.narrowing.cut_out.Goals as goal

pub count_up_to-requires : goal.count_up_to-requires
count_up_to-requires c =
    rising_rest c.args.depth c.count_below.result c.args.globs.now c.split_at.result.1.now c.split_at.ensures.back c.requires

pub returns : goal.returns
returns c =
    cut_is c.args.depth c.args.word.now c.args.globs.now c.split_at.result.1.now c.split_at-2.result.0.now c.split_at-2.result.1.now c.count_below.result c.count_up_to.result
    c.requires c.count_below.ensures c.split_at.ensures.back c.count_up_to.ensures c.split_at-2.ensures.front c.split_at-2.ensures.back
