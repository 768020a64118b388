-- None of those so far is of the mount.
use Rattle.std.proofs.Common.{◌≡◌, None, take}
use Rattle.general_words.specs.Searches.{first_some}
use Rattle.store_verdict.specs.PreparedView.{if_mount}
use Rattle.store_verdict.proofs.prepared.front_of.Given as goal

abbrev pub invariant-loop-one : goal.invariant-loop-one
invariant-loop-one l = first_some (if_mount l.mount) (take l.one-index l.seen) ≡ None
