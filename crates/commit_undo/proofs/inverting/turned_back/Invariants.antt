-- The changes so far have been turned back.
use Rattle.std.proofs.Common.{◌≡◌, take, map as over}
use Rattle.commit_log.specs.CommitView.{change_of}
use Rattle.commit_undo.proofs.InverseLemmas.{turned}
use Rattle.commit_undo.proofs.inverting.turned_back.Given as goal

abbrev pub invariant-loop-change : goal.invariant-loop-change
invariant-loop-change l = over change_of l.back.items ≡ over (turned l.before) (take l.change-index l.changes)
