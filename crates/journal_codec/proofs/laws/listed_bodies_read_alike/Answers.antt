use Rattle.journal_codec.specs.Forms.{uncounted}
use Rattle.journal_codec.proofs.BodyLemmas.{is_read}
use Rattle.journal_codec.proofs.ListedLemmas.{is_listed-Decides, listed_is_read, listed_from, listed_again}
use Rattle.journal_codec.proofs.laws.listed_bodies_read_alike.Goals as goal

pub returns-clause-among : goal.returns-clause-among
returns-clause-among c = is_listed-Decides

pub returns-clause-again : goal.returns-clause-again
returns-clause-again c = listed_again

pub returns-clause-entry : goal.returns-clause-entry
returns-clause-entry c =
    λ names body entry e. (is_read (uncounted body) entry (listed_is_read names body entry e).plain).entry

pub returns-clause-listed : goal.returns-clause-listed
returns-clause-listed c = λ names body entry e. (listed_is_read names body entry e).listed

pub returns-clause-goes_on : goal.returns-clause-goes_on
returns-clause-goes_on c = λ names body entry e. (listed_is_read names body entry e).goes_on

pub returns-clause-plain : goal.returns-clause-plain
returns-clause-plain c = λ names body entry e. (listed_is_read names body entry e).plain

pub returns-clause-alike : goal.returns-clause-alike
returns-clause-alike c =
    λ names body entry goes_on plain listed. listed_from names body entry (record { goes_on = goes_on; listed = listed; plain = plain })
