use Rattle.mount_table.proofs.OwnFileLemmas.{own_files, named_files, free_files, few_mounts}
use Rattle.mount_table.proofs.laws.the_mounts_of_a_table_have_files_of_their_own.Goals as goal

pub returns-clause-own : goal.returns-clause-own
returns-clause-own c = own_files

pub returns-clause-named : goal.returns-clause-named
returns-clause-named c = named_files

pub returns-clause-free : goal.returns-clause-free
returns-clause-free c = free_files

pub returns-clause-few : goal.returns-clause-few
returns-clause-few c = few_mounts
