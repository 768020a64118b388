use Rattle.std.proofs.Common.{rules, sym}
use Rattle.std.specs.Str.{IsUtf8}
use Rattle.hosts_storage.specs.ProgressView.{progress_of}
use Rattle.hosts_storage.proofs.HostLemmas.{comment-leads}
use Rattle.hosts_storage.proofs.progress.add_line.Goals as goal

pub returns-in_ok-waits-in-Comment : goal.returns-in_ok-waits-in-Comment
returns-in_ok-waits-in-Comment c =
    let utf8 : IsUtf8 c.args.line.now = search rules in
    comment-leads (progress_of c.args.progress.now) c.args.line.now c.in-Comment.comment.now c.add_comment.new.progress c.in_ok-waits-in-Comment.waits utf8 (sym c.in-Comment.ensures) c.in_ok-waits-in-Comment.ensures
