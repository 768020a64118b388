use Rattle.model_store.specs.Store.{formats_of}
use Rattle.model_files.proofs.FileLemmas.{files_from-entries}
use Rattle.model_files.proofs.the_files_of_a_history_are_those_of_its_entries.Goals as goal

pub returns : goal.returns
returns g c =
    λ store files history own legal. files_from-entries (formats_of g.F.Formats) store own store.start files history legal.each
