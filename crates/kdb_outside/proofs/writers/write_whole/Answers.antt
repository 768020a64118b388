-- A write that succeeds takes more of the piece, and one that is interrupted keeps what the writer has.
use Rattle.std.proofs.Common.{◌≡◌, drop, ap, ◌∙◌, rules}
use Rattle.std.proofs.lemmas.List.{take_rest}
use Rattle.kdb_outside.proofs.Written.{HasWritten-more, HasWritten-kept}
use Rattle.kdb_outside.proofs.writers.write_whole.Goals as goal
use Rattle.kdb_outside.proofs.writers.write_whole.Goals.{in-Ok, in-Err}

pub loop-preserved : goal.loop-preserved
loop-preserved g c =
    elim c.match-write.branch [
      | in-Ok w ↦
          let rest : c.match-write.left.now ≡ drop w.in-Ok.count c.loop.left.now = ap (λ b. b.now) w.left-is ∙ take_rest c.loop.left.now w.in-Ok.count in
          rw rest (HasWritten-more _ _ _ _ _ _ c.loop.invariant w.in-Ok.ensures.bound w.in-Ok.ensures.bytes)
      | in-Err w ↦ search (rules, HasWritten-kept)
    ]
