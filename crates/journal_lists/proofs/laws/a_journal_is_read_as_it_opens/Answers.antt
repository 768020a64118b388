use Rattle.journal_lists.proofs.Journals.{journal_opens, journal_is, journal_breaks, journal_read, journal_begins, journal_has_reading}
use Rattle.journal_lists.proofs.laws.a_journal_is_read_as_it_opens.Goals as goal

pub returns-clause-opens : goal.returns-clause-opens
returns-clause-opens c bytes entries = (journal_opens bytes entries, journal_is bytes entries)

pub returns-clause-broken : goal.returns-clause-broken
returns-clause-broken c bytes fault = journal_breaks bytes fault

pub returns-clause-read : goal.returns-clause-read
returns-clause-read c bytes entries = journal_read bytes entries

pub returns-clause-begins : goal.returns-clause-begins
returns-clause-begins c bytes opens reads = journal_begins bytes opens reads

pub returns-clause-unbroken : goal.returns-clause-unbroken
returns-clause-unbroken c bytes unbroken = journal_has_reading bytes unbroken
