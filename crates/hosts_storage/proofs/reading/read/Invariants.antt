-- The lines so far led to the progress so far.
use Rattle.std.proofs.Common.{◌+◌, ◌≤◌, length}
use Rattle.file_lines.proofs.Reading.{HasRead}
use Rattle.model_hosts.specs.Hosts.{start, Step}
use Rattle.hosts_storage.specs.ProgressView.{progress_of, IsSound}
use Rattle.hosts_storage.proofs.reading.read.Given as goal

abbrev pub invariant-loop-rest : goal.invariant-loop-rest
invariant-loop-rest l = record {
  read : HasRead Step start l.bytes l.rest (progress_of l.progress) l.number;
  sound : IsSound l.progress;
  small : l.number + length l.rest ≤ length l.bytes + 1;
}

abbrev pub decreases-loop-rest : goal.decreases-loop-rest
decreases-loop-rest l = length l.rest
