use Rattle.tool_single.proofs.JournalPlaces.{at-broken, broken-at}
use Rattle.tool_single.proofs.a_broken_journal_is_told_by_its_place.Goals as goal

pub returns-clause-told : goal.returns-clause-told
returns-clause-told c = λ seen at bytes. broken-at seen bytes at

pub returns-clause-alone : goal.returns-clause-alone
returns-clause-alone c = λ seen at bytes. at-broken seen bytes at
