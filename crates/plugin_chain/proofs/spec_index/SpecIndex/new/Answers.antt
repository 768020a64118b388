use Rattle.plugin_chain.proofs.RisingLemmas.{are_globs}
use Rattle.plugin_chain.proofs.spec_index.SpecIndex.new.Goals as goal

pub invariant_of-result : goal.invariant_of-result
invariant_of-result c = are_globs c.args.keys.now c.in_ok-globs.globs.items c.requires c.in_ok-globs.ensures
