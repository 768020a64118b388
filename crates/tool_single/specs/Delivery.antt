-- What becomes of a line on err. (This project's own.)
use Rattle.std.specs.Prelude.{◌≡◌, ℕ, List}
use Rattle.kdb_outside.specs.SinkChange.{SinkChange}
use Rattle.tool_single.specs.Outcome.{Failed, Gains}

-- the line is on err and the status stays, or err failed and the status is that of a fault
pub data Tells (status : ℕ) (text : List ℕ) (now : ℕ) (err : SinkChange) : Type 0 where
  Told : now ≡ status → Gains err.held_before err.held_now text → Tells status text now err
  Lost : now ≡ 74 → Failed err → Tells status text now err
