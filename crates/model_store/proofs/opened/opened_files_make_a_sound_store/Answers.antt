-- By the laws of the formats, and those of a table.
use Rattle.model_store.proofs.SoundLemmas.{sound_store}
use Rattle.model_store.proofs.opened.opened_files_make_a_sound_store.Goals as goal

pub returns : goal.returns
returns g c = λ files procs writable short made. sound_store g.F.Formats files procs writable short made
