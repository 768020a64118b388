-- Only blanks were passed.
use Rattle.std.proofs.Common.{◌≡◌, ◌≤◌, length}
use Rattle.model_hosts.specs.Line.{words}
use Rattle.hosts_storage.proofs.words.first_word.Given as goal

abbrev pub invariant-loop-rest : goal.invariant-loop-rest
invariant-loop-rest l = (words l.rest ≡ words l.bytes) × (length l.rest ≤ length l.bytes)

abbrev pub decreases-loop-rest : goal.decreases-loop-rest
decreases-loop-rest l = length l.rest
