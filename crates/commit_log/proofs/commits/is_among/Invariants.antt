-- The mount is none of those so far.
use Rattle.std.proofs.Common.{◌≡◌, false, take}
use Rattle.model_history.specs.History.{is_among}
use Rattle.commit_log.proofs.commits.is_among.Given as goal

abbrev pub invariant-loop-other : goal.invariant-loop-other
invariant-loop-other l = is_among (take l.other-index l.touched) l.mount ≡ false
