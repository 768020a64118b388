-- What the keys so far say, over what those to come say, is what all of them say.
use Rattle.std.proofs.Common.{◌≡◌, ◌∷◌, map}
use Rattle.std.specs.Vec.Iter.{into_iter_items}
use Rattle.model_specified.specs.SpecMeta.{laid_over, said_of}
use Rattle.plugin_chain.specs.Globs.{lent, seen}
use Rattle.plugin_chain.specs.Layers.{laid}
use Rattle.plugin_chain.proofs.SpecLemmas.{metas_of}
use Rattle.plugin_chain.proofs.spec_metas.layers_of.Given as goal

abbrev pub invariant-loop-glob : goal.invariant-loop-glob
invariant-loop-glob l =
    laid_over (laid l.layers.items ∷ metas_of l.path.parts (map seen (lent (into_iter_items l.glob-iterator)))) ≡ said_of l.specs l.path.parts
