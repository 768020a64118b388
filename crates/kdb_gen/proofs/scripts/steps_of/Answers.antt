-- A round more.
use Rattle.std.proofs.Common.{◌+◌, ◌++◌, ap, ◌∙◌, arith}
use Rattle.std.specs.List.{flat_map}
use Rattle.kdb_gen.specs.Generated.{round_of}
use Rattle.kdb_gen.proofs.RangeLemmas.{flat_map-first, up_to}
use Rattle.kdb_gen.proofs.scripts.steps_of.Goals as goal

pub loop-round-preserved : goal.loop-round-preserved
loop-round-preserved c =
    let rounds = c.args.rounds in
    let round = c.loop-round.round in
    let steps = round_of rounds c.args.session in
    ap (λ done. done ++ flat_map steps (up_to (round + 1) rounds)) c.in_ok-push_round.ensures
    ∙ flat_map-first steps c.loop-round.steps.items round rounds (omega arith) ∙ c.loop-round.invariant
