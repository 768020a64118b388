-- Nothing weighs nothing, and has no metadata.
use Rattle.dump_storage.proofs.ProgressLemmas.{IsSound-start}
use Rattle.dump_storage.proofs.progress.Progress.new.Goals as goal

pub returns-clause-sound : goal.returns-clause-sound
returns-clause-sound c = IsSound-start c.new.result c.new.ensures
