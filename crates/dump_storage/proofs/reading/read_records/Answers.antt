-- Each turn reads one record more, until there is none.
use Rattle.std.proofs.Common.{◌++◌, ap, ◌∙◌}
use Rattle.model_dump.specs.Record.{header}
use Rattle.dump_storage.specs.declared.progress.Progress as code
use Rattle.dump_storage.specs.ProgressView.{progress_of}
use Rattle.dump_storage.proofs.ReadingLemmas.{HasRead-more}
use Rattle.dump_storage.proofs.reading.read_records.Goals as goal

pub loop-progress-preserved : goal.loop-progress-preserved
loop-progress-preserved c =
    let so_far = c.loop-progress.invariant in
    let goes = rw c.in-Some.is at c.in_ok-more.ensures.step in
    record {
      read = HasRead-more (header ++ c.args.records.now) c.loop-progress.rest.now c.in-Some.more.now (progress_of c.loop-progress.progress) (progress_of c.next.new.progress) so_far.read goes;
      sound = c.in_ok-more.ensures.sound;
    }

pub returns : goal.returns
returns c =
    let stays = rw c.in_default.is at c.in_ok-more.ensures.step in
    record {
      progress = progress_of c.loop-progress.progress;
      read = c.loop-progress.invariant.read;
      no_more = stays.1;
      made = c.in_ok-finish.ensures ∙ ap (λ (p : code.Progress). (progress_of p).keys) stays.0;
    }
