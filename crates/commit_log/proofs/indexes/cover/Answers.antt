use Rattle.std.proofs.Common.{◌∙◌, arith}
use Rattle.commit_log.proofs.LogLemmas.{covered-next, covered-all}
use Rattle.commit_log.proofs.indexes.cover.Goals as goal

pub loop-mount-preserved : goal.loop-mount-preserved
loop-mount-preserved c = record {
  same = λ m. c.in_ok-cover_one.ensures.same m ∙ c.loop-mount.invariant.same m;
  longer = omega (arith, c.in_ok-cover_one.ensures.longer, c.loop-mount.invariant.longer);
  covered = covered-next c.args.mounts.now c.loop-mount.mount-index _ _ c.loop-mount-test.true c.in_ok-cover_one.ensures.longer c.in_ok-cover_one.ensures.ok c.loop-mount.invariant.covered;
}

pub returns-clause-ok : goal.returns-clause-ok
returns-clause-ok c =
    covered-all c.args.mounts.now c.loop-mount.mount-index _ c.loop-mount-test.false c.loop-mount.invariant.covered
