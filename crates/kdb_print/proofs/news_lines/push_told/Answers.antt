-- Each turn adds the line of one change more.
use Rattle.std.proofs.Common.{◌≡◌, Some, slice_get, string_bytes}
use Rattle.general_words.proofs.Lists.{at_place}
use Rattle.kdb_print.proofs.Pushed.{pushed-line}
use Rattle.kdb_print.specs.Replies.{line_of_changed}
use Rattle.kdb_print.proofs.news_lines.push_told.Goals as goal

pub loop-item-preserved : goal.loop-item-preserved
loop-item-preserved c =
    let told = c.args.told.now in
    let item = c.item-item.result in
    let there : Some item ≡ slice_get told c.loop-item.item-index = at_place told c.loop-item.item-index item c.loop-item-test.true c.item-item.is in
    pushed-line line_of_changed told c.loop-item.item-index item (string_bytes c.args.text.now) (string_bytes c.loop-item.text) _ there c.loop-item.invariant c.in_ok-push_changed.ensures
