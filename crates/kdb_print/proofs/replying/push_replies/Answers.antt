-- Each turn adds the lines of one reply more.
use Rattle.std.proofs.Common.{◌≡◌, Some, slice_get, string_bytes}
use Rattle.general_words.proofs.Lists.{at_place}
use Rattle.kdb_print.proofs.Pushed.{pushed-more}
use Rattle.kdb_print.specs.Replies.{lines_of_reply}
use Rattle.kdb_print.proofs.replying.push_replies.Goals as goal

pub loop-reply-preserved : goal.loop-reply-preserved
loop-reply-preserved c =
    let replies = c.args.replies.now in
    let item = c.reply-item.result in
    let there : Some item ≡ slice_get replies c.loop-reply.reply-index = at_place replies c.loop-reply.reply-index item c.loop-reply-test.true c.reply-item.is in
    pushed-more lines_of_reply replies c.loop-reply.reply-index item (string_bytes c.args.text.now) (string_bytes c.loop-reply.text) _ there c.loop-reply.invariant c.in_ok-push_reply.ensures
