use Rattle.store_play.specs.Flushed.{HasFlushed}
use Rattle.store_play.proofs.flushing.flush_behind.Given as goal

abbrev pub invariant-loop-place : goal.invariant-loop-place
invariant-loop-place g l = HasFlushed g.D.Disk l.initial.core l.core
