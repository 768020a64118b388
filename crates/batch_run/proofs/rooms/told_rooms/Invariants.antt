-- The sessions so far have their rooms.
use Rattle.std.proofs.Common.{◌≡◌, ℕ, ◌<◌, length, get_or}
use Rattle.std.specs.Global.{Vec}
use Rattle.batch_run.specs.Rooms.{IsRoom}
use Rattle.kdb_handle.specs.declared.replies.Reply.{Reply}
use Rattle.model_batch.specs.Scripts.{steps_in}
use Rattle.batch_run.proofs.rooms.told_rooms.Given as goal

abbrev pub invariant-loop-number : goal.invariant-loop-number
invariant-loop-number l = record {
  many : length l.rooms.items ≡ l.number-index;
  each : (i : ℕ) (e : Vec Reply) → i < length l.rooms.items → IsRoom (length (steps_in l.phase (get_or l.numbers i 0))) (get_or l.rooms.items i e);
}
