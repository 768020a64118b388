-- Each turn looks the names of one commit up.
use Rattle.std.proofs.Common.{Bool, is_some, map as over, sym, ap, ◌∙◌}
use Rattle.std.specs.FinMap.{find}
use Rattle.std.specs.Option.{option_copied}
use Rattle.commit_log.specs.CommitView.{change_of, commit_of}
use Rattle.commit_log.specs.declared.commits.Commit.{Commit}
use Rattle.commit_log.proofs.LogLemmas.{commit-at}
use Rattle.model_names.specs.Name.{Name}
use Rattle.model_names.specs.Order.{name_cmp}
use Rattle.model_undo.specs.Undoing.{first_name}
use Rattle.commit_undo.proofs.InverseLemmas.{first_with-here, first_with-next}
use Rattle.commit_undo.proofs.overtaking.first_with.Goals as goal

pub returns-in-Some : goal.returns-in-Some
returns-in-Some c =
    let test : Name → Bool = λ name. is_some (find name_cmp name c.args.names.now) in
    let there = commit-at c.args.commits.now c.loop-i.i c.index-commits-i.result c.loop-i-test.true c.index-commits-i.is in
    let same = ap (λ (r : Commit). first_name test (over change_of r.changes)) c.index-commits-i.is ∙ ap (λ changes. first_name test (over change_of changes)) (sym c.as_slice.ensures) in
    let named = same ∙ sym c.first_name.ensures ∙ ap option_copied c.in-Some.is in
    sym (c.loop-i.invariant ∙ first_with-here test (over commit_of c.args.commits.now) c.loop-i.i (commit_of c.index-commits-i.result) there c.in-Some.name.now named)

pub loop-i-preserved : goal.loop-i-preserved
loop-i-preserved c =
    let test : Name → Bool = λ name. is_some (find name_cmp name c.args.names.now) in
    let there = commit-at c.args.commits.now c.loop-i.i c.index-commits-i.result c.loop-i-test.true c.index-commits-i.is in
    let same = ap (λ (r : Commit). first_name test (over change_of r.changes)) c.index-commits-i.is ∙ ap (λ changes. first_name test (over change_of changes)) (sym c.as_slice.ensures) in
    let unnamed = same ∙ sym c.first_name.ensures ∙ ap option_copied c.in_default.is in
    c.loop-i.invariant
    ∙ first_with-next test (over commit_of c.args.commits.now) c.loop-i.i (commit_of c.index-commits-i.result) there unnamed
