-- The tries so far met a conflict, each of them, and were merged; the caller's keys stay.
use Rattle.std.proofs.Common.{◌≡◌, ◌≤◌, ◌+◌, length}
use Rattle.kdb_handle.specs.Merging.{IsTry}
use Rattle.kdb_handle.specs.Remaking.{AreTries}
use Rattle.kdb_handle.specs.Stores.{IsHandle}
use Rattle.kdb_handle.specs.Views.{files_in, lock_of, plan_of}
use Rattle.store_verdict.specs.RecordView.{proc_of}
use Rattle.kdb_handle.proofs.handles.Handle.try_all.Given as goal
use Rattle.model_store.specs.Store.{formats_of}

abbrev pub invariant-loop-try : goal.invariant-loop-try
invariant-loop-try g l = record {
  handle : IsHandle (lock_of l.store) (plan_of l.store) l.self;
  number : l.self.number ≡ l.fn.self.number;
  proc : proc_of l.self.rec ≡ proc_of l.fn.self.rec;
  keys : l.keys ≡ l.fn.keys;
  retries : AreTries (IsTry (formats_of g.F.Formats) (files_in l.store) l.parent l.strategy) l.fn.self l.fn.keys l.tried.items l.self l.ours;
  within : l._try ≤ l.tries;
  count : length l.tried.items + 1 ≡ l._try;
}
