-- The bytes so far are records that led to the progress.
use Rattle.std.proofs.Common.{◌++◌, length}
use Rattle.model_dump.specs.Record.{header}
use Rattle.dump_storage.specs.ProgressView.{IsSound, progress_of}
use Rattle.dump_storage.specs.Reading.{HasRead}
use Rattle.dump_storage.proofs.reading.read_records.Given as goal

abbrev pub invariant-loop-progress : goal.invariant-loop-progress
invariant-loop-progress l = record {
  read : HasRead (header ++ l.records) (progress_of l.progress) l.rest;
  sound : IsSound l.progress;
}

abbrev pub decreases-loop-progress : goal.decreases-loop-progress
decreases-loop-progress l = length l.rest
