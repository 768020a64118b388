use Rattle.std.proofs.Common.{map, string_bytes}
use Rattle.key_name.proofs.WalkLemmas.{walked-next}
use Rattle.key_name.proofs.walking.walk.Goals as goal

pub loop-raw-preserved : goal.loop-raw-preserved
loop-raw-preserved c = λ path h.
    walked-next (map (λ part. string_bytes part) c.loop-raw.parts.items) _ path c.args.raws.now c.loop-raw.raw-index c.raw-item.result c.raw-item.is c.loop-raw-test.true c.in_ok-step.ensures (c.loop-raw.invariant path h)
