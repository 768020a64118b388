use Rattle.journal_codec.proofs.HeaderLemmas.{header_again, header_is_read, spelling_of_header, header_short, headers_apart}
use Rattle.journal_codec.proofs.laws.headers_read_what_is_spelled.Goals as goal

pub returns-clause-again : goal.returns-clause-again
returns-clause-again c = header_again

pub returns-clause-good : goal.returns-clause-good
returns-clause-good c = λ header names e. (header_is_read header names e).good

pub returns-clause-spelling : goal.returns-clause-spelling
returns-clause-spelling c = spelling_of_header

pub returns-clause-short : goal.returns-clause-short
returns-clause-short c = header_short

pub returns-clause-apart : goal.returns-clause-apart
returns-clause-apart c = headers_apart
