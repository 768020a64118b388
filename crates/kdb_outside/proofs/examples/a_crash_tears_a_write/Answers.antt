-- The write that was left whole, and the one that was left out.
use Rattle.kdb_outside.proofs.TornLemmas.{IsTornWrite-whole, IsTornWrite-none}
use Rattle.kdb_outside.proofs.examples.a_crash_tears_a_write.Goals as goal

pub returns-clause-whole : goal.returns-clause-whole
returns-clause-whole c = IsTornWrite-whole

pub returns-clause-none : goal.returns-clause-none
returns-clause-none c = IsTornWrite-none
