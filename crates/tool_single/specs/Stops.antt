-- Results whose only fault is want of memory, as they end a run. (This project's own.)
use Rattle.std.specs.Prelude.{Result, Ok, Err}
use Rattle.tool_single.specs.declared.answers.Stop.{Stop}
use Rattle.tool_single.specs.declared.answers.Stop.TheVariants.{Memory}

abbrev pub or_memory : {A E : Type 0} → Result A E → Result A Stop
or_memory (Ok made) = Ok made
or_memory (Err fault) = Err Memory
