-- Both parts only read.
use Rattle.store_core.proofs.ReadingLemmas.{files-then}
use Rattle.store_core.proofs.mounting.mount_files.Goals as goal

pub returns-in_err-mount_others-clause-reads : goal.returns-in_err-mount_others-clause-reads
returns-in_err-mount_others-clause-reads g c =
    files-then g.D.Disk c.args.journal.now c.begin.new.journal c.mount_others.new.journal c.begin.ensures.reads c.mount_others.ensures.reads

pub returns-clause-reads : goal.returns-clause-reads
returns-clause-reads g c =
    files-then g.D.Disk c.args.journal.now c.begin.new.journal c.mount_others.new.journal c.begin.ensures.reads c.mount_others.ensures.reads

pub returns-clause-storable : goal.returns-clause-storable
returns-clause-storable g c =
    λ i file there. c.in_ok-mount_others.ensures.storable c.in_ok-opening.ensures.storable i file there
