-- The places so far are exchanged, and the others are as they were.
use Rattle.std.proofs.Common.{◌≡◌, ℕ, ◌<◌, ◌≤◌, get_or}
use Rattle.std.specs.Global.{Vec}
use Rattle.batch_run.specs.Going.{IsExchanged}
use Rattle.batch_run.specs.declared.workers.Worker.{Worker}
use Rattle.kdb_handle.specs.declared.replies.Reply.{Reply}
use Rattle.batch_run.proofs.exchanges.exchange.Given as goal

abbrev pub invariant-loop-place : goal.invariant-loop-place
invariant-loop-place l = record {
  done : (i : ℕ) (d : Worker) (e : Vec Reply) → i < l.place → IsExchanged (get_or l.initial.workers i d) (get_or l.initial.rooms i e) (get_or l.workers i d) (get_or l.rooms i e);
  workers : (i : ℕ) (d : Worker) → l.place ≤ i → get_or l.workers i d ≡ get_or l.initial.workers i d;
  rooms : (i : ℕ) (e : Vec Reply) → l.place ≤ i → get_or l.rooms i e ≡ get_or l.initial.rooms i e;
}
