-- The handle has the first free seat, and has seen what the lock began with.
use Rattle.std.proofs.Common.{◌+◌, arith, rules}
use Rattle.std.proofs.lemmas.Grind.{common_steps}
use Rattle.kdb_handle.proofs.deals.FreeSeats.kdb_open.Goals as goal

pub returns : goal.returns
returns g c = record {
  handle = grind (arith, common_steps);
  number = search rules;
  seen = search rules;
  own = search rules;
  rec = search rules;
  proc = search rules;
  free = record { room_is = search rules; some = search rules; each = λ k lt. let next = c.requires.free.each (k + 1) (omega arith) in grind (arith, common_steps, next) };
  flusher = search rules;
  fewer = search rules;
  none = search rules;
  same = search rules;
}
