-- The whole piece is a front of itself.
use Rattle.std.proofs.Common.{rules}
use Rattle.kdb_outside.proofs.Fronts.{HoldsFront-whole}
use Rattle.kdb_outside.proofs.mem_sinks.MemSinkSink.put.Goals as goal

pub returns-in-Ok-clause-front : goal.returns-in-Ok-clause-front
returns-in-Ok-clause-front c = HoldsFront-whole c.args.self.now.bytes _ _ (search rules)
