-- The flusher stays the store's.
use Rattle.kdb_handle.specs.Stores.{IsFlusher}
use Rattle.kdb_handle.specs.Views.{lock_of}
use Rattle.batch_run.proofs.flushing.flush_often.Given as goal

abbrev pub invariant-loop : goal.invariant-loop
invariant-loop g l = IsFlusher (lock_of l.store) l.flusher
