use Rattle.kdb_outside.proofs.FileNameLemmas.{is_file_name-Decides}
use Rattle.kdb_outside.proofs.names.the_test_of_file_names_decides.Goals as goal

pub returns : goal.returns
returns c = is_file_name-Decides
