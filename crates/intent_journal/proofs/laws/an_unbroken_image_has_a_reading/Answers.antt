use Rattle.intent_journal.proofs.Opened.{opening_reads}
use Rattle.intent_journal.proofs.Readings.{found_breaks}
use Rattle.intent_journal.proofs.laws.an_unbroken_image_has_a_reading.Goals as goal

pub returns-clause-broken : goal.returns-clause-broken
returns-clause-broken c = found_breaks

pub returns-clause-reads : goal.returns-clause-reads
returns-clause-reads c = opening_reads
