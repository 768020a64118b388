use Rattle.std.proofs.Common.{refl}
use Rattle.journal_codec.specs.Reading.{count_at, file_at, files_at, all_of, read_body}
use Rattle.journal_steps.specs.JournalBytes.{open_length}
use Rattle.journal_lists.specs.Grammar.{entry_or_place}
use Rattle.journal_lists.specs.Readings.{list_in}
use Rattle.journal_lists.proofs.examples.open_bodies_are_refused_at_their_place.Goals as goal

pub returns-clause-length : goal.returns-clause-length
unfolding list_in open_length entry_or_place read_body all_of count_at files_at file_at
returns-clause-length c = refl

pub returns-clause-cut : goal.returns-clause-cut
unfolding list_in open_length entry_or_place read_body all_of count_at files_at file_at
returns-clause-cut c = refl

pub returns-clause-behind : goal.returns-clause-behind
unfolding list_in open_length entry_or_place read_body all_of count_at files_at file_at
returns-clause-behind c = refl
