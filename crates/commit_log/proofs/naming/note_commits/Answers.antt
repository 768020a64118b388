use Rattle.std.proofs.Common.{ℕ, ◌+◌, ◌++◌, map, take, sym, ap, ◌∙◌}
use Rattle.general_words.proofs.Lists.{appended}
use Rattle.commit_log.specs.CommitView.{change_of, commit_of}
use Rattle.commit_log.specs.Naming.{marks_at, marks_in, marks_of}
use Rattle.commit_log.proofs.NamingLemmas.{commits-next}
use Rattle.commit_log.proofs.naming.note_commits.Goals as goal

pub loop-i-preserved : goal.loop-i-preserved
loop-i-preserved c = λ name.
    let commit = c.index-commits-i.result in
    let mark : ℕ × ℕ = (c.args.first + c.loop-i.i, commit.handle) in
    let had = marks_at c.args.names.now name in
    appended had (marks_at c.loop-i.names name) (marks_at c.note_changes.new.names name) (marks_in name c.args.first (map commit_of (take c.loop-i.i c.args.commits.now))) (marks_of name mark (map change_of commit.changes))
    (c.loop-i.invariant name)
    (c.in_ok-note_changes.ensures name ∙ ap (λ changes. marks_at c.loop-i.names name ++ marks_of name mark (map change_of changes)) c.as_slice.ensures)
    ∙ ap (λ marks. had ++ marks) (sym (commits-next name c.args.first c.args.commits.now c.loop-i.i commit c.loop-i-test.true c.index-commits-i.is))
