use Rattle.std.proofs.Common.{map, sym, ap, ◌∙◌}
use Rattle.model_history.specs.History.{is_among}
use Rattle.commit_log.specs.CommitView.{commit_of}
use Rattle.commit_log.specs.declared.commits.Commit.{Commit}
use Rattle.commit_log.proofs.LogLemmas.{commit-at, first_after-here, first_after-next}
use Rattle.commit_log.proofs.histories.first_behind.Goals as goal

pub returns-then-is_among : goal.returns-then-is_among
returns-then-is_among c =
    let mount = c.args.mount in
    let there = commit-at c.args.commits.now c.loop-i.i c.index-commits-i.result c.loop-i-test.true c.index-commits-i.is in
    let same = ap (λ (r : Commit). is_among r.touched mount) c.index-commits-i.is ∙ ap (λ touched. is_among touched mount) (sym c.as_slice.ensures) in
    let touches = same ∙ sym c.is_among.ensures ∙ c.if-is_among.true in
    sym (c.loop-i.invariant ∙ first_after-here (map commit_of c.args.commits.now) mount c.loop-i.i (commit_of c.index-commits-i.result) there touches)

pub loop-i-preserved : goal.loop-i-preserved
loop-i-preserved c =
    let mount = c.args.mount in
    let there = commit-at c.args.commits.now c.loop-i.i c.index-commits-i.result c.loop-i-test.true c.index-commits-i.is in
    let same = ap (λ (r : Commit). is_among r.touched mount) c.index-commits-i.is ∙ ap (λ touched. is_among touched mount) (sym c.as_slice.ensures) in
    let passes = same ∙ sym c.is_among.ensures ∙ c.if-is_among.false in
    c.loop-i.invariant
    ∙ first_after-next (map commit_of c.args.commits.now) mount c.loop-i.i (commit_of c.index-commits-i.result) there passes
