-- What the layers so far come to, over those to come, is what all come to.
use Rattle.std.proofs.Common.{◌≡◌, ◌∷◌, drop, map}
use Rattle.model_specified.specs.SpecMeta.{laid_over}
use Rattle.plugin_chain.specs.Layers.{laid, meta_of}
use Rattle.plugin_chain.proofs.layers.lay_all.Given as goal

abbrev pub invariant-loop-layer : goal.invariant-loop-layer
invariant-loop-layer l = laid_over (l.meta ∷ map meta_of (drop l.layer-index l.others)) ≡ laid l.layers
