use Rattle.journal_lists.proofs.Journals.{former_opens, former_is, former_breaks, former_read, former_begins, former_has_reading}
use Rattle.journal_lists.proofs.laws.a_former_journal_is_read_as_it_opens.Goals as goal

pub returns-clause-opens : goal.returns-clause-opens
returns-clause-opens c bytes entries = (former_opens bytes entries, former_is bytes entries)

pub returns-clause-broken : goal.returns-clause-broken
returns-clause-broken c bytes fault = former_breaks bytes fault

pub returns-clause-read : goal.returns-clause-read
returns-clause-read c bytes entries = former_read bytes entries

pub returns-clause-begins : goal.returns-clause-begins
returns-clause-begins c bytes opens reads = former_begins bytes opens reads

pub returns-clause-unbroken : goal.returns-clause-unbroken
returns-clause-unbroken c bytes unbroken = former_has_reading bytes unbroken
