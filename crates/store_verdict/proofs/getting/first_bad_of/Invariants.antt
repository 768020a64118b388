-- None of the mounts so far is bad.
use Rattle.std.proofs.Common.{◌≡◌, None, take}
use Rattle.general_words.specs.Searches.{first_some}
use Rattle.store_verdict.specs.BadMounts.{bad_at}
use Rattle.store_verdict.proofs.getting.first_bad_of.Given as goal

abbrev pub invariant-loop-mount : goal.invariant-loop-mount
invariant-loop-mount l = first_some (bad_at l.files) (take l.mount-index l.mounts) ≡ None
