-- A key that is before the last is searched for after one comparison.
use Rattle.std.proofs.Common.{rules, ◌-◌, ◌<◌, length, arith}
use Rattle.chunked_map.proofs.CostLemmas.{looked_before, no_more_chunks}
use Rattle.chunked_map.specs.Chunks.{joined}
use Rattle.chunked_map.proofs.counted.search_counted.Goals as goal

pub returns-in-None-clause-cost : goal.returns-in-None-clause-cost
returns-in-None-clause-cost g c =
    let cs = c.args.chunks.now in
    let some : 0 < length cs = search rules in
    looked_before (c.search_before.new.steps - c.look_at_last.new.steps) (c.search_before.new.steps - c.args.steps.now) (length cs) (length (joined cs))
    (omega (arith, c.look_at_last.ensures.step, c.search_before.ensures.more)) c.search_before.ensures.cost some (no_more_chunks cs c.requires.sizes)
