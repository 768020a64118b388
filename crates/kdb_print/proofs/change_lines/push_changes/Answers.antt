-- Each turn adds the lines of one change more.
use Rattle.std.proofs.Common.{◌≡◌, ◌∙◌, ◌++◌, Some, ap, slice_get, string_bytes, sym}
use Rattle.std.specs.List.{flat_map}
use Rattle.std.proofs.lemmas.List.{take_all}
use Rattle.commit_log.specs.CommitView.{change_of}
use Rattle.general_words.proofs.Lists.{at_place}
use Rattle.kdb_print.proofs.Pushed.{flat_map-over, pushed-more}
use Rattle.kdb_print.specs.Printed.{lines_of_change}
use Rattle.model_lines.specs.Lines.{ended}
use Rattle.kdb_print.proofs.change_lines.push_changes.Goals as goal

pub loop-change-preserved : goal.loop-change-preserved
loop-change-preserved c =
    let changes = c.args.changes.now in
    let item = c.change-item.result in
    let there : Some item ≡ slice_get changes c.loop-change.change-index = at_place changes c.loop-change.change-index item c.loop-change-test.true c.change-item.is in
    pushed-more (λ change. lines_of_change (change_of change)) changes c.loop-change.change-index item (string_bytes c.args.text.now) (string_bytes c.loop-change.text) _ there c.loop-change.invariant c.in_ok-push_change.ensures

pub returns : goal.returns
returns c =
    let changes = c.args.changes.now in
    c.loop-change.invariant
    ∙ ap (λ lines. string_bytes c.args.text.now ++ ended lines)
    (ap (flat_map (λ change. lines_of_change (change_of change))) (take_all c.loop-change.change-index changes c.loop-change-test.false) ∙ sym (flat_map-over lines_of_change change_of changes))
