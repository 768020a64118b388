-- Where no record stands, and where one has no reading, nothing is read.
use Rattle.dump_storage.specs.RecordView.{record_of}
use Rattle.dump_storage.specs.ProgressView.{progress_of}
use Rattle.dump_storage.proofs.ReadingLemmas.{ReadsNoRecord-front}
use Rattle.dump_storage.proofs.reading.next.Goals as goal

pub returns-else-branch-clause-step : goal.returns-else-branch-clause-step
returns-else-branch-clause-step c =
    let added = c.in-Some.added in
    let stays = rw c.if-branch.false at c.in_ok-add.ensures.step in
    (stays.0, ReadsNoRecord-front (progress_of c.args.progress.now) c.args.bytes.now (record_of added.kind added.first.now added.second.now) c.in-Some.rest.now c.in-Some.ensures stays.1)
