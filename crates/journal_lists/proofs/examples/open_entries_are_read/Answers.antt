use Rattle.std.proofs.Common.{refl}
use Rattle.journal_codec.specs.Reading.{count_at, file_at, files_at, all_of, read_body}
use Rattle.journal_steps.specs.JournalBytes.{open_length}
use Rattle.journal_lists.specs.Grammar.{entry_or_place}
use Rattle.journal_lists.specs.Readings.{list_in}
use Rattle.journal_lists.proofs.examples.open_entries_are_read.Goals as goal

pub returns-clause-empty : goal.returns-clause-empty
unfolding list_in open_length entry_or_place read_body all_of count_at files_at file_at
returns-clause-empty c = refl

pub returns-clause-shut : goal.returns-clause-shut
unfolding list_in open_length entry_or_place read_body all_of count_at files_at file_at
returns-clause-shut c = refl

pub returns-clause-other : goal.returns-clause-other
unfolding list_in open_length entry_or_place read_body all_of count_at files_at file_at
returns-clause-other c = refl

pub returns-clause-alone : goal.returns-clause-alone
unfolding list_in open_length entry_or_place read_body all_of count_at files_at file_at
returns-clause-alone c = refl

pub returns-clause-ends : goal.returns-clause-ends
unfolding list_in open_length entry_or_place read_body all_of count_at files_at file_at
returns-clause-ends c = refl

pub returns-clause-two : goal.returns-clause-two
unfolding list_in open_length entry_or_place read_body all_of count_at files_at file_at
returns-clause-two c = refl

pub returns-clause-old_behind : goal.returns-clause-old_behind
unfolding list_in open_length entry_or_place read_body all_of count_at files_at file_at
returns-clause-old_behind c = refl

pub returns-clause-shut_behind : goal.returns-clause-shut_behind
unfolding list_in open_length entry_or_place read_body all_of count_at files_at file_at
returns-clause-shut_behind c = refl
