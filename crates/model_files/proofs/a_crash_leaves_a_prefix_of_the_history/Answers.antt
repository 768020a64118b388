use Rattle.model_store.specs.Store.{formats_of}
use Rattle.model_files.proofs.FileLemmas.{reached_history}
use Rattle.model_files.proofs.a_crash_leaves_a_prefix_of_the_history.Goals as goal

pub returns : goal.returns
returns g c =
    λ store files history begun image own legal reached. reached_history (formats_of g.F.Formats) store own files history begun image legal.each reached
