use Rattle.std.proofs.Common.{map, sym, ◌∙◌}
use Rattle.commit_log.specs.CommitView.{commit_of}
use Rattle.commit_log.proofs.LogLemmas.{commit-at, first_change-here, first_change-next}
use Rattle.commit_log.proofs.histories.first_change_behind.Goals as goal

pub returns-then-changes_beside : goal.returns-then-changes_beside
returns-then-changes_beside c =
    let there = commit-at c.args.commits.now c.loop-i.i c.index-commits-i.result c.loop-i-test.true c.index-commits-i.is in
    sym (c.loop-i.invariant ∙ first_change-here (map commit_of c.args.commits.now) c.args.name.now c.loop-i.i c.args.not_by (commit_of c.index-commits-i.result) there (sym c.changes_beside.ensures ∙ c.if-changes_beside.true))

pub loop-i-preserved : goal.loop-i-preserved
loop-i-preserved c =
    let there = commit-at c.args.commits.now c.loop-i.i c.index-commits-i.result c.loop-i-test.true c.index-commits-i.is in
    c.loop-i.invariant
    ∙ first_change-next (map commit_of c.args.commits.now) c.args.name.now c.loop-i.i c.args.not_by (commit_of c.index-commits-i.result) there (sym c.changes_beside.ensures ∙ c.if-changes_beside.false)
