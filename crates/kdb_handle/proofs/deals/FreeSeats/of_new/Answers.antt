-- The last seat is taken out.
use Rattle.std.proofs.Common.{arith, refl}
use Rattle.std.specs.Vec.{vec_capacity}
use Rattle.kdb_handle.proofs.SeatLemmas.{dealt_flusher, dealt_free}
use Rattle.kdb_handle.proofs.deals.FreeSeats.of_new.Goals as goal

pub returns-clause-free : goal.returns-clause-free
returns-clause-free c lock new =
    dealt_free lock c.args.seats.items c.pop.new.self.items c.in-Some.last c.in-Some.ensures.items new (vec_capacity c.pop.new.self) (omega (arith, c.pop.ensures.capacity))

pub returns-clause-flusher : goal.returns-clause-flusher
returns-clause-flusher c lock new =
    record {
      flusher = c.in-Some.last;
      there = refl;
      is = dealt_flusher lock c.args.seats.items c.pop.new.self.items c.in-Some.last c.in-Some.ensures.items new;
    }
