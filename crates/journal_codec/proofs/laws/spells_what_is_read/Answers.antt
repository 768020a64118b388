use Rattle.journal_codec.specs.Forms.{uncounted}
use Rattle.journal_codec.proofs.BodyLemmas.{is_read}
use Rattle.journal_codec.proofs.FormLemmas.{spelling_plain, spelling_on}
use Rattle.journal_codec.proofs.laws.spells_what_is_read.Goals as goal

pub returns-clause-entry : goal.returns-clause-entry
returns-clause-entry c = λ body files e. (is_read (uncounted body) files e).entry

pub returns-clause-spelling : goal.returns-clause-spelling
returns-clause-spelling c = spelling_plain

pub returns-clause-spelling_on : goal.returns-clause-spelling_on
returns-clause-spelling_on c = spelling_on
