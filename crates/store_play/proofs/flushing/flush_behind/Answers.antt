-- Flush by flush.
use Rattle.std.proofs.Common.{sym, subst}
use Rattle.store_play.specs.Flushed.{HasFlushed}
use Rattle.store_play.proofs.FlushLemmas.{flushed_none, flushed_then}
use Rattle.store_play.proofs.flushing.flush_behind.Goals as goal
use Rattle.store_play.proofs.flushing.flush_behind.Goals.{then-place-count, else-place-count}

pub loop-place-init : goal.loop-place-init
loop-place-init g c = flushed_none g.D.Disk c.args.core.now

pub loop-place-preserved : goal.loop-place-preserved
loop-place-preserved g c = elim c.if-place-count.branch [
  | then-place-count w ↦ subst (λ core. HasFlushed g.D.Disk c.args.core.now core) (sym w.core-is)
      (flushed_then g.D.Disk c.args.core.now c.loop-place.core w.flush.new.core c.loop-place.invariant w.flush.ensures)
  | else-place-count w ↦ subst (λ core. HasFlushed g.D.Disk c.args.core.now core) (sym w.core-is) c.loop-place.invariant
]
