use Rattle.model_store.specs.Store.{formats_of}
use Rattle.model_files.proofs.FileLemmas.{length-entries, entries_from-take, files_after-take}
use Rattle.model_files.proofs.the_entries_of_a_prefix_are_the_first_ones.Goals as goal

pub returns-clause-count : goal.returns-clause-count
returns-clause-count g c = λ store history. length-entries (formats_of g.F.Formats) store store.start history

pub returns-clause-first : goal.returns-clause-first
returns-clause-first g c =
    λ store history number. entries_from-take (formats_of g.F.Formats) store number store.start history

pub returns-clause-files : goal.returns-clause-files
returns-clause-files g c =
    λ store files history number own legal. files_after-take (formats_of g.F.Formats) store number own files history legal.each
