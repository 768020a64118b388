use Rattle.tool_single.specs.Input.{taken}
use Rattle.tool_single.proofs.importing.take_keys.Goals as goal

pub returns-clause-told : goal.returns-clause-told
returns-clause-told g c = λ bytes is. c.in_ok-read_holding.ensures.is (taken bytes) (c.in_ok-read.ensures.told bytes is)
