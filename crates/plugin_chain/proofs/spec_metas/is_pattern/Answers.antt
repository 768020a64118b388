use Rattle.plugin_chain.proofs.SpecLemmas.{pattern_else, pattern_then}
use Rattle.plugin_chain.proofs.spec_metas.is_pattern.Goals as goal

pub returns-then-matches_glob : goal.returns-then-matches_glob
returns-then-matches_glob c =
    pattern_then c.args.path.now.parts c.args.own.now c.args.name.now c.matches_glob.result c.ne.result c.requires c.matches_glob.ensures c.if-matches_glob.true c.ne.ensures

pub returns-else-matches_glob : goal.returns-else-matches_glob
returns-else-matches_glob c =
    pattern_else c.args.path.now.parts c.args.own.now c.args.name.now c.matches_glob.result c.requires c.matches_glob.ensures c.if-matches_glob.false
