use Rattle.model_store.specs.Store.{formats_of}
use Rattle.model_files.proofs.NameLemmas.{entry_listed}
use Rattle.model_files.proofs.the_entry_of_a_commit_names_files_of_the_table.Goals as goal

pub returns : goal.returns
returns g c store before commit = entry_listed (formats_of g.F.Formats) store before commit
