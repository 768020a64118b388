use Rattle.journal_codec.proofs.BodyLemmas.{spelled_apart}
use Rattle.journal_codec.proofs.FormLemmas.{read_again, read_again_on, followed-spelled, followed-spelled_on, apart_on}
use Rattle.journal_codec.proofs.laws.reads_what_is_spelled.Goals as goal

pub returns-clause-again : goal.returns-clause-again
returns-clause-again c = read_again

pub returns-clause-again_on : goal.returns-clause-again_on
returns-clause-again_on c = read_again_on

pub returns-clause-ends : goal.returns-clause-ends
returns-clause-ends c = followed-spelled

pub returns-clause-goes_on : goal.returns-clause-goes_on
returns-clause-goes_on c = followed-spelled_on

pub returns-clause-apart : goal.returns-clause-apart
returns-clause-apart c = spelled_apart

pub returns-clause-apart_on : goal.returns-clause-apart_on
returns-clause-apart_on c = apart_on
