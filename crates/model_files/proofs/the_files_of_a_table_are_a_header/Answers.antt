use Rattle.model_files.proofs.NameLemmas.{names_are_header}
use Rattle.model_files.proofs.the_files_of_a_table_are_a_header.Goals as goal

pub returns : goal.returns
returns c store have some = names_are_header store.mounts have some
