use Rattle.std.proofs.Common.{refl}
use Rattle.journal_codec.specs.Header.{name_at, names_at, all_names, read_header}
use Rattle.journal_codec.specs.Listed.{read_listed}
use Rattle.journal_codec.specs.Reading.{count_at, file_at, files_at, all_of}
use Rattle.journal_steps.specs.JournalBytes.{open_length}
use Rattle.journal_lists.specs.Grammar.{entry_or_place}
use Rattle.journal_lists.specs.Heads.{header_or_place}
use Rattle.journal_lists.specs.Journals.{head_in}
use Rattle.journal_lists.specs.Readings.{list_in}
use Rattle.journal_lists.proofs.examples.a_head_is_read_before_its_list.Goals as goal

pub returns-clause-short : goal.returns-clause-short
unfolding head_in
returns-clause-short c = refl

pub returns-clause-shut : goal.returns-clause-shut
unfolding head_in
returns-clause-shut c = refl

pub returns-clause-no_entry : goal.returns-clause-no_entry
unfolding head_in header_or_place read_header all_names names_at name_at list_in open_length entry_or_place read_listed all_of count_at files_at file_at
returns-clause-no_entry c = refl

pub returns-clause-entry : goal.returns-clause-entry
unfolding head_in header_or_place read_header all_names names_at name_at list_in open_length entry_or_place read_listed all_of count_at files_at file_at
returns-clause-entry c = refl

pub returns-clause-version : goal.returns-clause-version
unfolding head_in
returns-clause-version c = refl

pub returns-clause-header : goal.returns-clause-header
unfolding head_in header_or_place read_header all_names names_at name_at count_at
returns-clause-header c = refl

pub returns-clause-other_name : goal.returns-clause-other_name
unfolding head_in header_or_place read_header all_names names_at name_at list_in open_length entry_or_place read_listed all_of count_at files_at file_at
returns-clause-other_name c = refl
