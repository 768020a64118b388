use Rattle.std.proofs.Common.{◌++◌, ◌∷◌, [], map, take, sym, ap, ◌∙◌}
use Rattle.general_words.proofs.Lists.{appended}
use Rattle.commit_log.specs.CommitView.{change_of}
use Rattle.commit_log.specs.Naming.{marks_at, marks_of}
use Rattle.commit_log.proofs.NamingLemmas.{changes-next, marks_of-one}
use Rattle.commit_log.proofs.naming.note_changes.Goals as goal

pub loop-change-preserved : goal.loop-change-preserved
loop-change-preserved c = λ name.
    let change = c.change-item.result in
    let had = marks_at c.args.names.now name in
    let before = marks_at c.loop-change.names name in
    appended had before (marks_at c.note.new.names name) (marks_of name c.args.mark (map change_of (take c.loop-change.change-index c.args.changes.now))) (marks_of name c.args.mark (change_of change ∷ []))
    (c.loop-change.invariant name)
    (c.in_ok-note.ensures name ∙ marks_of-one name c.args.mark (change_of change) before)
    ∙ ap (λ marks. had ++ marks) (sym (changes-next name c.args.mark c.args.changes.now c.loop-change.change-index change c.loop-change-test.true c.change-item.is))
