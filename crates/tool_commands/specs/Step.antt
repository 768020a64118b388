-- What a command makes of the keys that it got. (This project's own.)
use Rattle.std.specs.Prelude.{ℕ, List}
use Rattle.model_maps.specs.KeyMap.{KeyMap}
use Rattle.tool_commands.specs.Report.{Report, IsEnd}

-- what a command makes of the keys that it got: it tells something, or it sets these keys in their place and then puts
-- something on out
pub data Step : Type 0 where
  Tells : Report → Step
  Sets : KeyMap → List ℕ → Step

-- what a step tells has one of the statuses of its command
abbrev pub TellsEnd : List ℕ → Step → Type 0
TellsEnd own (Tells report) = IsEnd own report.status
TellsEnd own (Sets keys out) = Unit {0}
