-- No `#` was passed, so the cut is that of what is left, behind what was passed.
use Rattle.std.proofs.Common.{◌≡◌, ◌++◌, take, drop}
use Rattle.model_hosts.specs.Line.{cut_at_hash}
use Rattle.hosts_storage.proofs.words.data_and_comment.Given as goal

abbrev pub invariant-loop-at : goal.invariant-loop-at
invariant-loop-at l =
    cut_at_hash l.line ≡ (take l.at l.line ++ (cut_at_hash (drop l.at l.line)).0, (cut_at_hash (drop l.at l.line)).1)
