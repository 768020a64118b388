use Rattle.std.proofs.Common.{inl}
use Rattle.intent_journal.proofs.FormerImages.{former_reads, reads_former, former_broken, former_outcome, outcome_former, former_found}
use Rattle.intent_journal.proofs.laws.a_former_image_reads_alike.Goals as goal

pub returns-clause-reads : goal.returns-clause-reads
returns-clause-reads c image entries short = (former_reads image short entries, reads_former image short entries)

pub returns-clause-broken : goal.returns-clause-broken
returns-clause-broken c image short = (former_broken image short, λ broken. inl broken)

pub returns-clause-outcomes : goal.returns-clause-outcomes
returns-clause-outcomes c image files short = (former_outcome image short files, outcome_former image short files)

pub returns-clause-opening : goal.returns-clause-opening
returns-clause-opening c image short = former_found image short
