-- The first commit that changes one of the names so far.
use Rattle.std.proofs.Common.{◌≡◌, take, map as over}
use Rattle.store_verdict.proofs.BlockLemmas.{first_among}
use Rattle.store_verdict.proofs.ChangeSetLemmas.{seen_change}
use Rattle.store_verdict.proofs.judging.first_same.Given as goal

abbrev pub invariant-loop-name : goal.invariant-loop-name
invariant-loop-name l =
    l.first ≡ first_among l.points l.set.handle l.mount l.history.commits l.front (over seen_change (take l.name-index l.name-items))
