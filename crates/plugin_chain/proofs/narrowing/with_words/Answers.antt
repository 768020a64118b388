use Rattle.plugin_chain.proofs.NarrowLemmas.{have_words}
use Rattle.plugin_chain.proofs.narrowing.with_words.Goals as goal

pub returns : goal.returns
returns c =
    have_words c.args.depth c.args.one.now c.args.two.now c.args.three.now c.args.globs.now c.cut_out.result.0.now c.cut_out.result.1.now c.cut_out-2.result.0.now c.cut_out-2.result.1.now c.cut_out-3.result.0.now c.cut_out-3.result.1.now
    c.requires.words c.cut_out.ensures c.cut_out-2.ensures c.cut_out-3.ensures
