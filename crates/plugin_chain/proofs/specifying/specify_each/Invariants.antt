-- The set has the specified entries of the keys so far, and the keys to come as they were.
use Rattle.model_specified.specs.Specified.{specified_entry}
use Rattle.plugin_chain.proofs.SetLemmas.{StandsSo}
use Rattle.plugin_chain.proofs.specifying.specify_each.Given as goal

abbrev pub invariant-loop-name : goal.invariant-loop-name
invariant-loop-name l = StandsSo (specified_entry l.specs) l.name-iterator l.set l.made
