use Rattle.tool_single.proofs.JournalPlaces.{at-version, version-at}
use Rattle.tool_single.proofs.an_unknown_journal_is_told_by_its_version.Goals as goal

pub returns-clause-told : goal.returns-clause-told
returns-clause-told c = λ seen found bytes. version-at seen bytes found

pub returns-clause-alone : goal.returns-clause-alone
returns-clause-alone c = λ seen found bytes. at-version seen bytes found
