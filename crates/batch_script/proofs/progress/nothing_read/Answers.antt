-- Nothing was said, in a phase without items.
use Rattle.std.proofs.Common.{[], refl}
use Rattle.batch_script.proofs.progress.nothing_read.Goals as goal

pub returns : goal.returns
returns c = record {
  over = [];
  latest = [];
  cut = refl;
  proc = c.new.ensures.items;
  phases = c.new-2.ensures.items;
  rooms = c.in_ok-empty_rooms.ensures;
  named = refl;
  named_here = refl;
  numbered = tt;
  header = refl;
}
