-- Metadata that stands one over the other.
use Rattle.std.specs.Prelude.{List, map}
use Rattle.model_maps.specs.Entry.{Meta}
use Rattle.model_specified.specs.SpecMeta.{laid_over}
use Rattle.plugin_chain.specs.declared.layers.Layer.{Layer}
use Rattle.plugin_chain.specs.declared.layers.Layer.TheVariants.{Own, Shared}

-- the metadata of a layer
abbrev pub meta_of : Layer → Meta
meta_of (Own meta) = meta.now
meta_of (Shared glob) = glob.now.entry.now.meta

-- what some layers come to: each name has the text of the first that has it
abbrev pub laid : List Layer → Meta
laid layers = laid_over (map meta_of layers)
