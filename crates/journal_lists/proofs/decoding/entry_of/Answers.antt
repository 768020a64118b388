use Rattle.journal_lists.proofs.Rules.{fails_within}
use Rattle.journal_lists.proofs.decoding.entry_of.Goals as goal

pub returns-in-Err-clause-within : goal.returns-in-Err-clause-within
returns-in-Err-clause-within c at is = fails_within c.args.names.now c.args.there.now at (c.in-Err.ensures.bad at is)
