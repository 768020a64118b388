use Rattle.intent_journal.proofs.OldForm.{reads_before, reads_now, broken_before, broken_now, outcome_before, outcome_now, found_same}
use Rattle.intent_journal.proofs.laws.the_old_form_reads_alike.Goals as goal

pub returns-clause-reads : goal.returns-clause-reads
returns-clause-reads c image entries short old =
    (reads_before image entries short old, reads_now image entries short old)

pub returns-clause-broken : goal.returns-clause-broken
returns-clause-broken c image short old = (broken_before image short old, broken_now image old)

pub returns-clause-outcomes : goal.returns-clause-outcomes
returns-clause-outcomes c image files short old =
    (outcome_before image files short old, outcome_now image files short old)

pub returns-clause-opening : goal.returns-clause-opening
returns-clause-opening c image short old = found_same image short old
