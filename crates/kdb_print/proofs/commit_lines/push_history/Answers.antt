-- Each turn adds the lines of one commit.
use Rattle.std.proofs.Common.{◌≡◌, ◌∙◌, ◌+◌, ◌++◌, ◌∷◌, Some, ap, drop, slice_get, string_bytes, sym}
use Rattle.commit_log.specs.CommitView.{commit_of}
use Rattle.kdb_print.proofs.Pushed.{commits-next, drop-next, pushed-next}
use Rattle.kdb_print.specs.Printed.{lines_of_commit, lines_of_commits, lines_of_history}
use Rattle.model_lines.specs.Lines.{ended}
use Rattle.kdb_print.proofs.commit_lines.push_history.Goals as goal

pub loop-i-preserved : goal.loop-i-preserved
loop-i-preserved c =
    let mounts = c.args.mounts.now in
    let sessions = c.args.sessions.now in
    let commits = c.args.history.now.commits in
    let i = c.loop-i.i in
    let commit = commit_of c.in-Some.commit.now in
    let found : slice_get commits i ≡ Some commit = commits-next commits i (Some commit) c.in-Some.ensures in
    let all = string_bytes c.args.text.now ++ ended (lines_of_history mounts sessions commits) in
    let still : string_bytes c.loop-i.text ++ ended (lines_of_commits mounts sessions (i + 1) (commit ∷ drop (i + 1) commits)) ≡ all =
    ap (λ rest. string_bytes c.loop-i.text ++ ended (lines_of_commits mounts sessions (i + 1) rest)) (sym (drop-next commits i commit found)) ∙ c.loop-i.invariant in
    pushed-next (lines_of_commit mounts sessions (i + 1) commit) (lines_of_commits mounts sessions (i + 1 + 1) (drop (i + 1) commits)) (string_bytes c.loop-i.text) (string_bytes c.push_commit.new.text) all still c.in_ok-push_commit.ensures
