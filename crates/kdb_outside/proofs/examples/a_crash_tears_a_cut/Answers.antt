-- The cut that was left whole, and the one that was left out.
use Rattle.kdb_outside.proofs.TornLemmas.{IsTornCut-whole, IsTornCut-none}
use Rattle.kdb_outside.proofs.examples.a_crash_tears_a_cut.Goals as goal

pub returns-clause-whole : goal.returns-clause-whole
returns-clause-whole c = λ before new_length. IsTornCut-whole new_length before

pub returns-clause-none : goal.returns-clause-none
returns-clause-none c = λ before new_length. IsTornCut-none new_length before
